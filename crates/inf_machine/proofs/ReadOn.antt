-- The machine reads tokens in two parts as it reads them at once.
use Rattle.std.proofs.Common.{◌≡◌, ℕ, List, [], ◌∷◌, ◌++◌, Bool, true, false, Option, Some, None, refl, sym, ◌∙◌, ap, append_assoc, cond}
use Rattle.inf_machine.specs.{Grammar.Event, Grammar.Grammar, declared.symbols.Symbol.Symbol}
use Rattle.inf_machine.specs.Machine.{Known, Taken, fits, taken, events_of, read, Read, behind}

module _ {A : Type 0} where
  -- the result of reading more tokens behind those that were read
  abbrev pub read_on : Grammar A → Known → Option (Read A) → List ℕ → Option (Read A)
  read_on g k None atoms = None
  read_on g k (Some r) atoms = behind r.events (read g k r.left atoms)

  behind_both : (first second : List (Event A)) (o : Option (Read A)) → behind first (behind second o) ≡ behind (first ++ second) o
  behind_both first second None = refl
  behind_both first second (Some r) =
      ap (λ events. Some (record { events = events; left = r.left })) (sym (append_assoc first second r.events))

  behind_none : (o : Option (Read A)) → o ≡ behind [] o
  behind_none None = refl
  behind_none (Some r) = refl

  -- events in front of the first part are in front of the result of both parts
  behind_read : (g : Grammar A) (k : Known) (events : List (Event A)) (o : Option (Read A)) (atoms : List ℕ) →
      behind events (read_on g k o atoms) ≡ read_on g k (behind events o) atoms
  behind_read g k events None atoms = refl
  behind_read g k events (Some r) atoms = behind_both events r.events (read g k r.left atoms)

  pub read_append : (g : Grammar A) (k : Known) (symbols : List (Symbol A)) (first second : List ℕ) →
      read g k symbols (first ++ second) ≡ read_on g k (read g k symbols first) second
  read_append g k symbols [] second = behind_none (read g k symbols second)
  read_append g k symbols (atom ∷ first) second =
      by_fit (fits g k atom symbols) (read_append g k (taken g k atom symbols).left first second)
    where
      es : List (Event A)
      es = events_of (taken g k atom symbols).actions atom

      left : List (Symbol A)
      left = (taken g k atom symbols).left

      by_fit : (b : Bool) → read g k left (first ++ second) ≡ read_on g k (read g k left first) second
          → cond b (behind es (read g k left (first ++ second))) None ≡ read_on g k (cond b (behind es (read g k left first)) None) second
      by_fit true e = ap (behind es) e ∙ behind_read g k es (read g k left first) second
      by_fit false e = refl

  -- a token that fits is read behind those that were read
  pub record OneMore (g : Grammar A) (k : Known) (symbols : List (Symbol A)) (atoms : List ℕ) (left : List (Symbol A)) : Type 0 where
    pub r : Read A
    pub is_read : read g k symbols atoms ≡ Some r
    pub leaves : r.left ≡ left

  pub reads_one : (g : Grammar A) (k : Known) (symbols : List (Symbol A)) (atoms : List ℕ) (atom : ℕ) (left : List (Symbol A)) →
      OneMore g k symbols atoms left → fits g k atom left ≡ true → OneMore g k symbols (atoms ++ atom ∷ []) (taken g k atom left).left
  reads_one g k symbols atoms atom left o f = record {
    r = record { events = o.r.events ++ (events_of n.actions atom ++ []); left = n.left };
    is_read = read_append g k symbols atoms (atom ∷ []) ∙ ap (λ x. read_on g k x (atom ∷ [])) o.is_read
        ∙ ap (λ b. behind o.r.events (cond b (behind (events_of n.actions atom) (read g k n.left [])) None)) fits_there;
    leaves = ap (λ symbols. (taken g k atom symbols).left) o.leaves;
  } where
    n : Taken A
    n = taken g k atom o.r.left

    fits_there : fits g k atom o.r.left ≡ true
    fits_there = ap (fits g k atom) o.leaves ∙ f

  -- a token that does not fit is not read
  pub reads_none : (g : Grammar A) (k : Known) (symbols : List (Symbol A)) (atoms : List ℕ) (atom : ℕ) (left : List (Symbol A)) →
      OneMore g k symbols atoms left → fits g k atom left ≡ false → read g k symbols (atoms ++ atom ∷ []) ≡ None
  reads_none g k symbols atoms atom left o f =
      let n = taken g k atom o.r.left in
      read_append g k symbols atoms (atom ∷ []) ∙ ap (λ x. read_on g k x (atom ∷ [])) o.is_read
      ∙ ap (λ b. behind o.r.events (cond b (behind (events_of n.actions atom) (read g k n.left [])) None)) (ap (fits g k atom) o.leaves ∙ f)
