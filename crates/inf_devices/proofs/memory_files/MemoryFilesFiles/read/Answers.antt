use Rattle.std.proofs.Common.{◌≡◌, ◌<◌, ◌-◌, [], min, length, take, get_or, sym, ◌∙◌, ap, subst, arith}
use Rattle.std.proofs.lemmas.List.{get_or_default}
use Rattle.inf_devices.specs.MemoryFiles.{sources_of, kept_in, IsOpening, MemoryState}
use Rattle.inf_devices.proofs.OpeningLemmas.{left_of, AreOpenings-given, IsOpening-given, gives_innermost, place_within, is_opening}
use Rattle.inf_devices.proofs.NamesOpened.{names_given}
use Rattle.inf_devices.proofs.memory_files.MemoryFilesFiles.read.Goals as goal

is_some_open : (c : goal.After-add) → 0 < length c.self.inside.open_places.items
is_some_open c = let P : MemoryState → Type 0 = λ s. 0 < length s.openings.open_places in subst P (sym c.self.view_is) c.requires.is_open

is_last : (c : goal.After-add) →
    c.index-place.result.now ≡ get_or c.self.inside.open_places.items (length c.self.inside.open_places.items - 1) 0
is_last c =
    let some = is_some_open c in
    let len : c.len.result ≡ length c.self.inside.open_places.items = c.len.ensures ∙ c.self.inside.open_places.ok.0 in
    c.index-place.ensures
    ∙ get_or_default c.self.inside.open_places.items (c.len.result - 1) c.index-place.result.now 0 (omega (arith, len, some))
    ∙ ap (λ n. get_or c.self.inside.open_places.items (n - 1) 0) len

is_within : (c : goal.After-add) → c.index-place.result.now < length c.self.inside.opened.items
is_within c =
    place_within (sources_of (kept_in c.self.inside.sources)) c.self.inside.opened.items c.self.inside.open_places.items c.self.invariant
    (is_some_open c) c.index-place.result.now (is_last c)

is_of_source : (c : goal.After-add) → IsOpening (sources_of (kept_in c.self.inside.sources)) c.index_mut-opened.result.now
is_of_source c =
    is_opening (sources_of (kept_in c.self.inside.sources)) c.self.inside.opened.items c.self.inside.open_places.items c.self.invariant
    c.index-place.result.now c.index_mut-opened.result.now (is_within c) c.index_mut-opened.ensures.value

count_left : (c : goal.After-add) → c.copy_front-count.result ≡ min (length c.args.to.now)
    (length (left_of (sources_of (kept_in c.self.inside.sources)) c.index_mut-opened.result.now))
count_left c = c.copy_front-count.ensures.count ∙ ap (λ l. min (length c.args.to.now) (length l)) c.rest_of.ensures.rest

pub give-requires : goal.give-requires
give-requires c = omega (arith, c.rest_of.ensures.fits, c.copy_front-count.ensures.count)

pub invariant_of-self : goal.invariant_of-self
invariant_of-self c = rw c.give.ensures
    (AreOpenings-given (sources_of (kept_in c.self.inside.sources)) c.self.inside.opened.items c.self.inside.open_places.items
    c.index-place.result.now _ c.self.invariant
    (IsOpening-given (sources_of (kept_in c.self.inside.sources)) c.index_mut-opened.result.now c.copy_front-count.result (is_of_source c)
    (omega (arith, count_left c))))

pub returns-clause-reads : goal.returns-clause-reads
returns-clause-reads c honest = rw (← c.self.view_is, c.give.ensures)
    (gives_innermost (sources_of (kept_in c.self.inside.sources)) c.self.inside.opened.items c.self.inside.open_places.items
    c.index-place.result.now c.index_mut-opened.result.now c.copy_front-count.result _
    (is_some_open c) (is_last c) (is_within c) c.index_mut-opened.ensures.value (is_of_source c)
    (omega (arith, count_left c)) (λ none. omega (arith, count_left c, c.requires.room, none))
    (c.copy_front-count.ensures.copied ∙ ap (take c.copy_front-count.result) c.rest_of.ensures.rest))

pub returns-clause-opened : goal.returns-clause-opened
returns-clause-opened c = rw (← c.self.view_is, c.give.ensures)
    (names_given (sources_of (kept_in c.self.inside.sources)) c.self.inside.opened.items c.index-place.result.now
    c.index_mut-opened.result.now c.copy_front-count.result [] (is_within c) c.index_mut-opened.ensures.value)
