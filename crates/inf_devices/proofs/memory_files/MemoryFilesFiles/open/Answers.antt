use Rattle.std.proofs.Common.{[], map, sym, ◌∙◌, ap, arith, refl}
use Rattle.std.specs.{Option.is_some, String.string_bytes}
use Rattle.inf_devices.specs.Files.{Openings, names_from, opened}
use Rattle.inf_devices.specs.MemoryFiles.{sources_of, kept_in, opening_of, MemoryState}
use Rattle.inf_devices.proofs.NamesOpened.{names_behind}
use Rattle.inf_devices.proofs.OpeningLemmas.{source_absent, source_present, AreOpenings-opened, openings_of-opened}
use Rattle.inf_devices.proofs.memory_files.MemoryFilesFiles.open.Goals as goal

pub returns-then-not-contains_key-clause-opens : goal.returns-then-not-contains_key-clause-opens
returns-then-not-contains_key-clause-opens c honest = (
  ap (λ (s : MemoryState). sources_of s.kept c.args.name.now) (sym c.self.view_is)
      ∙ source_absent c.self.inside.sources c.args.name.now (sym c.contains_key.ensures ∙ c.if-not-contains_key.true),
  refl,
)

pub invariant_of-self-2 : goal.invariant_of-self-2
invariant_of-self-2 c =
    let there = source_present c.self.inside.sources c.args.name.now (sym c.contains_key.ensures ∙ c.if-not-contains_key.false) in
    rw (c.in_ok-add_opened.ensures.opened, c.in_ok-add_opened.ensures.open_places)
    (AreOpenings-opened (sources_of (kept_in c.self.inside.sources)) c.self.inside.opened.items c.self.inside.open_places.items _
    c.self.invariant (record { whole = there.0; is_source = rw c.in_ok-name.ensures.ok there.1; within = omega arith }))

pub returns-clause-opens : goal.returns-clause-opens
returns-clause-opens c honest =
    let there = source_present c.self.inside.sources c.args.name.now (sym c.contains_key.ensures ∙ c.if-not-contains_key.false) in (
      ap is_some (ap (λ (s : MemoryState). sources_of s.kept c.args.name.now) (sym c.self.view_is) ∙ there.1),
      rw (← c.self.view_is, c.in_ok-add_opened.ensures.opened, c.in_ok-add_opened.ensures.open_places, ← c.in_ok-name.ensures.ok)
          (openings_of-opened (sources_of (kept_in c.self.inside.sources)) c.self.inside.opened.items c.self.inside.open_places.items _ refl
          refl),
    )

pub returns-clause-opened : goal.returns-clause-opened
returns-clause-opened c =
    let s = sources_of (kept_in c.self.inside.sources) in let items = c.self.inside.opened.items in
    rw (← c.self.view_is, c.in_ok-add_opened.ensures.opened, ← c.in_ok-name.ensures.ok)
    (ap (λ (o : Openings). names_from [] o.all) (openings_of-opened s items c.self.inside.open_places.items _ refl refl)
    ∙ names_behind [] (map (opening_of s) items) (opened (string_bytes c.in_ok-name.name)))
