-- The state behind a file that was left or entered, a refused inclusion, and a turn.
use Rattle.std.proofs.Common.{◌≡◌, ℕ, List, [], ◌∷◌, ◌++◌, length, drop, reverse, get_or, Bool, refl, sym, ap, subst, ◌∙◌}
use Rattle.inf_devices.specs.{Files.Openings, Files.Sources, Files.opened}
use Rattle.inf_sources.specs.{Cursors.Cursor, declared.open_file.OpenFile.OpenFile}
use Rattle.inf_sources.specs.Inclusions.{Nesting, Waiting, closed, resumed}
use Rattle.inf_sources.specs.Open.{AreNested, IsNested, Open, cursor_of, lexers_of, nesting, rest_of, waiting_at}
use Rattle.inf_sources.proofs.Places.{innermost_of, reverse_last}
use Rattle.inf_conditionals.specs.{Ends.file_ended, Ends.file_told, Ends.with_among, Open.Conditions}
use Rattle.inf_unit.specs.Messages.{Reported}
use Rattle.inf_reader.specs.declared.recovery.Recovery.{Recovery}
use Rattle.inf_session.specs.{Standing.state}
use Rattle.inf_session.specs.Session.{State, file_closed, left, left_by, turn}

-- Lemmas about files that wait

-- one file waits
pub record OneWaits (waiting : List Waiting) (f : OpenFile) : Type 0 where
  pub cursor : Cursor
  pub others : List Waiting
  pub is : waiting ≡ record { cursor = cursor; conditionals = reverse f.conditionals.items; is_system = f.is_system } ∷ others

pub one_waits : (s : Sources) (start now : Openings) (o : Open) (outer : List OpenFile) (f : OpenFile) → IsNested start now o →
    o.outer ≡ outer ++ f ∷ [] → OneWaits (nesting s start now o).waiting f
one_waits s start now o outer f n e =
    let around : reverse o.outer ≡ f ∷ reverse outer = ap reverse e ∙ reverse_last outer f in
    let at = innermost_of (length now.all) (reverse now.open_places) o.lexer (lexers_of (reverse o.outer)) n.nested in
    let inner = innermost_of at.place at.rest f.lexer (lexers_of (reverse outer))
    (subst (λ (fs : List OpenFile). AreNested at.place at.rest (lexers_of fs)) around at.inner) in
    record {
      cursor = cursor_of f.lexer (rest_of s (get_or now.all inner.place (opened [])) f.lexer.window);
      others = waiting_at s now.all inner.rest (reverse outer);
      is = ap (λ (ps : List ℕ). waiting_at s now.all (drop 1 ps) (reverse o.outer)) at.is
          ∙ ap (λ (ps : List ℕ). waiting_at s now.all ps (reverse o.outer)) inner.is
          ∙ ap (λ (fs : List OpenFile). waiting_at s now.all (inner.place ∷ inner.rest) fs) around;
    }

-- where no file waits, no bytes of waiting files are to come
none_at : (s : Sources) (now : Openings) (places : List ℕ) → waiting_at s now.all places [] ≡ []
none_at s now [] = refl
none_at s now (p ∷ places) = refl

pub none_waits : (s : Sources) (start now : Openings) (f : Open) → f.outer ≡ [] → (nesting s start now f).waiting ≡ []
none_waits s start now f e = ap (λ (fs : List OpenFile). waiting_at s now.all (drop 1 (reverse now.open_places)) (reverse fs)) e
    ∙ none_at s now (drop 1 (reverse now.open_places))

-- the state where a file was left, and reading goes on in the one that waits, as that was
abbrev pub going_on : Nesting → Conditions → Bool → State → State
going_on n c is_system s = record s {
  nesting = n;
  conditions = c;
  reading = record s.reading { mode = Recovery.Reads };
  work = record s.work { is_system = is_system };
}

resumes : (waiting : List Waiting) (first : Waiting) (others : List Waiting) (s : State) → waiting ≡ first ∷ others
    → going_on (resumed waiting s.nesting) (with_among first.conditionals s.conditions) first.is_system s ≡ left_by waiting s
resumes waiting first others s e =
    ap (λ (ws : List Waiting). going_on (resumed ws s.nesting) (with_among first.conditionals s.conditions) first.is_system s) e
    ∙ sym (ap (λ (ws : List Waiting). left_by ws s) e)

-- the state with the conditionals of the file, and the messages about them
abbrev pub closed_as : Conditions → Reported → State → State
closed_as c r s = record s { conditions = c; work = record s.work { report = r } }

closed_is : (s : State) (c : Conditions) (r : Reported) → c ≡ file_ended s.conditions →
    r ≡ file_told s.nesting.names s.conditions s.work.report → closed_as c r s ≡ file_closed s
closed_is s c r ended told =
    ap (λ (x : Conditions). closed_as x r s) ended ∙ ap (λ (x : Reported). closed_as (file_ended s.conditions) x s) told

pub left_is : (s : State) (n : Nesting) (c back : Conditions) (r : Reported) (f : OpenFile) → c ≡ file_ended s.conditions →
    r ≡ file_told s.nesting.names s.conditions s.work.report
    → back ≡ with_among (reverse f.conditionals.items) c → n ≡ closed s.nesting → OneWaits s.nesting.waiting f
    → going_on n back f.is_system (closed_as c r s) ≡ left s
left_is s n c back r f ended told given e one =
    let among = reverse f.conditionals.items in
    let first : Waiting = record { cursor = one.cursor; conditionals = among; is_system = f.is_system } in
    ap (λ (x : Conditions). going_on n x f.is_system (closed_as c r s)) given
    ∙ ap (λ (x : State). going_on n (with_among among x.conditions) f.is_system x) (closed_is s c r ended told)
    ∙ ap (λ (m : Nesting). going_on m (with_among among (file_closed s).conditions) f.is_system (file_closed s)) e
    ∙ resumes s.nesting.waiting first one.others (file_closed s) one.is

-- no file was left
pub stays : (s : State) (n : Nesting) (c : Conditions) (r : Reported) → c ≡ file_ended s.conditions →
    r ≡ file_told s.nesting.names s.conditions s.work.report
    → n ≡ s.nesting → s.nesting.waiting ≡ [] → record (closed_as c r s) { nesting = n } ≡ left s
stays s n c r ended told e none = ap (λ (x : State). record x { nesting = n }) (closed_is s c r ended told)
    ∙ ap (λ (m : Nesting). record (file_closed s) { nesting = m }) e
    ∙ sym (ap (λ (waiting : List Waiting). left_by waiting (file_closed s)) none)
