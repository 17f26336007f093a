-- The open files after a file was entered.
use Rattle.std.proofs.Common.{◌≡◌, ◌⊎◌, inl, inr, ℕ, suc, zero, ◌<◌, ◌≤◌, List, [], ◌∷◌, ◌++◌, length, drop, reverse, get_or, Some}
use Rattle.std.proofs.Common.{unwrap_or, refl, sym, ap, subst, ◌∙◌, arith, length-append, slice_get, Bool, Vec}
use Rattle.std.proofs.Math.Seq.{drop-length, get_or-append_seam}
use Rattle.std.specs.declared.alloc.Global.{Global}
use Rattle.inf_characters.specs.declared.characters.CharSet.{CharSet}
use Rattle.inf_devices.specs.Files.{Opening, Openings, Sources, opened}
use Rattle.inf_lexer.specs.{Entering.ClosedAgain, Entering.with_closed, Entering.with_opened, Names.Nest, Names.entered, Names.number_of}
use Rattle.inf_lexer.specs.{Readers.Reader, Readers.at_front, Unread.innermost, Unread.innermost_place, Unread.to_come, Unread.unread}
use Rattle.inf_sources.specs.{Cursors.Cursor, Cursors.front, Inclusions.Nesting, Inclusions.Waiting, Inclusions.main_opened}
use Rattle.inf_sources.specs.{Inclusions.with_opened as one_more, Open.AreNested, Open.IsNested, Open.Open, Open.cursor_of, Open.lexers}
use Rattle.inf_sources.specs.{Open.lexers_of, Open.nesting, Open.opened_since, Open.rest_of, Open.waiting_as, Open.waiting_at, Open.waits}
use Rattle.inf_sources.specs.{declared.open_file.Conditional.Conditional, declared.open_file.OpenFile.OpenFile}
use Rattle.inf_sources.proofs.Places.{innermost_of, last_of, names_of, nested_more, reverse_last, waiting_same}

last_is : (old : Openings) (name : List ℕ) → innermost_place (with_opened name old) ≡ length old.all
last_is old name = last_of (old.open_places ++ length old.all ∷ []) (length old.all) (reverse old.open_places)
    (reverse_last old.open_places (length old.all))

innermost_is : (old : Openings) (name : List ℕ) → innermost (with_opened name old) ≡ opened name
innermost_is old name = ap (λ n. get_or (old.all ++ opened name ∷ []) n (opened [])) (last_is old name)
    ∙ get_or-append_seam old.all (opened name) [] (opened [])

-- an opened source has all its bytes still to give
pub all_unread : (s : Sources) (old : Openings) (name : List ℕ) → unread s (with_opened name old) ≡ unwrap_or (s name) []
all_unread s old name = ap (λ (o : Opening). drop (length o.given) (unwrap_or (s o.name) [])) (innermost_is old name)

front_is : (s : Sources) (old : Openings) (name : List ℕ) (set : CharSet) (limit number : ℕ)
    → cursor_of (at_front set limit number) (to_come s (with_opened name old) (at_front set limit number).window) ≡ front set limit number
    (unwrap_or (s name) [])
front_is s old name set limit number = ap (λ rest. front set limit number rest) (all_unread s old name)

pub slice_front : (xs : List Opening) (x : Opening) (i : ℕ) → i < length xs → slice_get (xs ++ x ∷ []) i ≡ slice_get xs i
slice_front [] x i less = absurd (omega (arith, less))
slice_front (y ∷ xs) x zero less = refl
slice_front (y ∷ xs) x (suc i) less = slice_front xs x i (omega (arith, less))

drop_more : (k : ℕ) (xs : List Opening) (x : Opening) → k ≤ length xs →
    names_of (drop k (xs ++ x ∷ [])) ≡ names_of (drop k xs) ++ x.name ∷ []
drop_more zero [] x le = refl
drop_more zero (y ∷ xs) x le = ap (λ names. y.name ∷ names) (drop_more zero xs x (omega arith))
drop_more (suc k) [] x le = absurd (omega (arith, le))
drop_more (suc k) (y ∷ xs) x le = drop_more k xs x (omega (arith, le))

-- the main source alone
pub main_nesting : (s : Sources) (old : Openings) (name : List ℕ) (set : CharSet) (limit : ℕ)
    → nesting s old (with_opened name old) (record {
      nest = entered name (record { set = set; limit = limit; names = []; open_files = [] });
      lexer = at_front set limit 0;
      outer = [];
    }) ≡ main_opened set limit s name
main_nesting s old name set limit = rw (
  drop_more (length old.all) old.all (opened name) (omega arith),
  drop-length old.all,
  front_is s old name set limit 0,
  none_at (drop 1 (reverse (old.open_places ++ length old.all ∷ []))),
) refl where
  none_at : (places : List ℕ) → waiting_at s (old.all ++ opened name ∷ []) places [] ≡ []
  none_at [] = refl
  none_at (p ∷ places) = refl

pub main_nested : (old : Openings) (name : List ℕ) (nest : Nest) (lexer : Reader) →
    IsNested old (with_opened name old) (record { nest = nest; lexer = lexer; outer = [] })
main_nested old name nest lexer =
    let places : reverse (old.open_places ++ length old.all ∷ []) ≡ length old.all ∷ reverse old.open_places =
    reverse_last old.open_places (length old.all) in
    record {
      more = omega (arith, length-append old.all (opened name ∷ []));
      nested = subst (λ ps. AreNested (length (old.all ++ opened name ∷ [])) ps (lexer ∷ [])) (sym places)
          (omega (arith, length-append old.all (opened name ∷ [])), tt);
      others = ap (λ ps. drop 1 ps) places;
    }

-- Lemmas about one more file

pub entered_nested : (start old : Openings) (before : Open) (name : List ℕ) (nest : Nest) (lexer : Reader) (f : OpenFile) →
    f.lexer ≡ before.lexer → IsNested start old before
    → IsNested start (with_opened name old) (record { nest = nest; lexer = lexer; outer = before.outer ++ f ∷ [] })
entered_nested start old before name nest lexer f waits n =
    let places : reverse (old.open_places ++ length old.all ∷ []) ≡ length old.all ∷ reverse old.open_places =
    reverse_last old.open_places (length old.all) in
    let readers : lexers_of (reverse (before.outer ++ f ∷ [])) ≡ lexers before =
    ap lexers_of (reverse_last before.outer f) ∙ ap (λ (r : Reader). r ∷ lexers_of (reverse before.outer)) waits in
    let size : length (before.outer ++ f ∷ []) ≡ suc (length before.outer) = omega (arith, length-append before.outer (f ∷ [])) in
    record {
      more = omega (arith, n.more, length-append old.all (opened name ∷ []));
      nested = subst (λ ps. AreNested (length (old.all ++ opened name ∷ [])) ps (lexer ∷ lexers_of (reverse (before.outer ++ f ∷ []))))
          (sym places)
          (subst (λ rs. AreNested (length (old.all ++ opened name ∷ [])) (length old.all ∷ reverse old.open_places) (lexer ∷ rs))
          (sym readers) (omega (arith, length-append old.all (opened name ∷ [])), n.nested));
      others = ap (λ k. drop (suc k) (reverse (old.open_places ++ length old.all ∷ []))) size
          ∙ ap (λ ps. drop (suc (suc (length before.outer))) ps) places ∙ n.others;
    }

pub entered_nesting : (s : Sources) (start old : Openings) (before : Open) (name : List ℕ) (set : CharSet) (limit : ℕ)
    (conditionals : Vec Conditional Global) (is_system : Bool) → IsNested start old before
    → nesting s start (with_opened name old) (record {
      nest = entered name before.nest;
      lexer = at_front set limit (number_of name before.nest.names);
      outer = before.outer ++ waits before.lexer conditionals is_system ∷ [];
    }) ≡ one_more set limit s (reverse conditionals.items) is_system name (nesting s start old before)
entered_nesting s start old before name set limit conditionals is_system n =
    let f : OpenFile = waits before.lexer conditionals is_system in let number : ℕ = number_of name before.nest.names in
    let new = with_opened name old in
    let at = innermost_of (length old.all) (reverse old.open_places) before.lexer (lexers_of (reverse before.outer)) n.nested in
    let places : reverse new.open_places ≡ length old.all ∷ reverse old.open_places = reverse_last old.open_places (length old.all) in
    let files : reverse (before.outer ++ f ∷ []) ≡ f ∷ reverse before.outer = reverse_last before.outer f in
    let place : innermost_place old ≡ at.place = last_of old.open_places at.place at.rest at.is in
    let all_wait : waiting_at s new.all (drop 1 (reverse new.open_places)) (reverse (before.outer ++ f ∷ [])) ≡
    record { cursor = (nesting s start old before).cursor; conditionals = reverse conditionals.items; is_system = is_system }
    ∷ (nesting s start old before).waiting =
    ap (λ (ps : List ℕ). waiting_at s new.all (drop 1 ps) (reverse (before.outer ++ f ∷ []))) places
    ∙ ap (λ fs. waiting_at s new.all (reverse old.open_places) fs) files
    ∙ waiting_same s old.all new.all (length old.all) (reverse old.open_places) (f ∷ reverse before.outer) n.nested
    (λ i less. slice_front old.all (opened name) i less) ∙ ap (λ (ps : List ℕ). waiting_at s old.all ps (f ∷ reverse before.outer)) at.is
    ∙ sym (ap (λ (i : ℕ). waiting_as f (rest_of s (get_or old.all i (opened [])) before.lexer.window) ∷ waiting_at s old.all
    at.rest (reverse before.outer)) place)
    ∙ sym (ap (λ (ps : List ℕ). waiting_as f (to_come s old before.lexer.window) ∷ waiting_at s old.all (drop 1 ps)
    (reverse before.outer)) at.is) in
    let made : List (List ℕ) → Cursor → List Waiting → Nesting = λ openings cursor waiting.
    record { names = (entered name before.nest).names; openings = openings; cursor = cursor; waiting = waiting } in
    ap (λ x. made x (cursor_of (at_front set limit number) (to_come s new (at_front set limit number).window))
    (waiting_at s new.all (drop 1 (reverse new.open_places)) (reverse (before.outer ++ f ∷ []))))
    (drop_more (length start.all) old.all (opened name) n.more) ∙ ap (λ x. made (names_of (drop (length start.all) old.all) ++ name ∷ []) x
    (waiting_at s new.all (drop 1 (reverse new.open_places)) (reverse (before.outer ++ f ∷ [])))) (front_is s old name set limit number)
    ∙ ap (λ x. made (names_of (drop (length start.all) old.all) ++ name ∷ []) (front set limit number (unwrap_or (s name) [])) x) all_wait

-- Lemmas about a file that was closed at once

closed_nested : (start old : Openings) (before : Open) (name : List ℕ) → IsNested start old before →
    IsNested start (with_closed name old) before
closed_nested start old before name n = record {
  more = omega (arith, n.more, length-append old.all (opened name ∷ []));
  nested = nested_more (length old.all) (length (old.all ++ opened name ∷ [])) (reverse old.open_places) (lexers before)
      (omega (arith, length-append old.all (opened name ∷ []))) n.nested;
  others = n.others;
}

pub failed_nested : (s : Sources) (known names : List (List ℕ)) (start old new : Openings) (before : Open) → IsNested start old before
    → (new ≡ old) ⊎ ClosedAgain s known names old new → IsNested start new before
failed_nested s known names start old new before n (inl same) = subst (λ (o : Openings). IsNested start o before) (sym same) n
failed_nested s known names start old new before n (inr c) =
    subst (λ (o : Openings). IsNested start o before) (sym c.is_closed) (closed_nested start old before c.name n)

pub opened_and_closed : (start old new : Openings) (name : List ℕ) → length start.all ≤ length old.all → new ≡ with_closed name old
    → opened_since start new ≡ opened_since start old ++ name ∷ []
opened_and_closed start old new name more closes =
    ap (λ (o : Openings). opened_since start o) closes ∙ drop_more (length start.all) old.all (opened name) more

-- Lemmas about the open files behind a call

pub only_name : (name x : List ℕ) (place : ℕ) → slice_get (name ∷ []) place ≡ Some x → x ≡ name
only_name name x zero e = cc
only_name name x (suc place) e = cc

abbrev pub fresh : CharSet → ℕ → Nest
fresh set limit = record { set = set; limit = limit; names = []; open_files = [] }

pub main_of : (s : Sources) (old new : Openings) (name n : List ℕ) (stack nest : Nest) (lexer : Reader) (outer : List OpenFile)
    (set : CharSet) (limit : ℕ)
    → stack ≡ fresh set limit → n ≡ name → new ≡ with_opened n old → nest ≡ entered n stack → lexer ≡ at_front stack.set stack.limit
    (number_of n stack.names) → outer ≡ []
    → nesting s old new (record { nest = nest; lexer = lexer; outer = outer }) ≡ main_opened set limit s name
main_of s old new name n stack nest lexer outer set limit is_fresh named opens enters fronts empty =
    rw (empty, fronts, enters, opens, is_fresh, named) (main_nesting s old name set limit)

pub main_nested_of : (old new : Openings) (n : List ℕ) (nest : Nest) (lexer : Reader) (outer : List OpenFile) → new ≡ with_opened n old →
    outer ≡ [] → IsNested old new (record { nest = nest; lexer = lexer; outer = outer })
main_nested_of old new n nest lexer outer opens empty = rw (opens, empty) (main_nested old n nest lexer)
