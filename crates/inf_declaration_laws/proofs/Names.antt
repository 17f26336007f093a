-- The names of an output behind a declaration, and behind a use.
use Rattle.std.proofs.Common.{◌≡◌, List, [], ◌∷◌, ℕ, Option, Some, None, Bool, true, false, cond, refl, sym, ap, subst, ◌∙◌, bytes_eq, find}
use Rattle.std.proofs.lemmas.Slice.Eq.{bytes_eq-Decides}
use Rattle.inf_settings.specs.Bounds.{Limits}
use Rattle.inf_scanner.specs.declared.tokens.Place.{Place}
use Rattle.inf_names.specs.{Spellings.Name, declared.meanings.Meaning.Meaning, declared.symbols.DeclareFault.DeclareFault}
use Rattle.inf_names.specs.declared.symbols.{Found.Found, ReferFault.ReferFault}
use Rattle.inf_names.specs.SystemNames.{meaning_if, name_of, system_meaning, system_names}
use Rattle.inf_names.specs.Symbols.{IsDeclared, IsUsed, Named, Standing, declare_fault, folded, found_as, found_in, put, refer_fault}
use Rattle.inf_names.specs.Symbols.{standing_of, with_declared, with_used_by}
use Rattle.inf_output.specs.Output.{Out, declared, declared_by, referred, referred_by}
use Rattle.inf_named_values.specs.Declarations.{name_declared}
use Rattle.inf_declaration_laws.specs.Laws.{Declares, Keeps, meaning_told, names_of}

same_key : (a b : List ℕ) → bytes_eq a b ≡ true → a ≡ b
same_key a b e = (bytes_eq-Decides a b).0 e

twice : {A : Type 0} (b : Bool) (x y z : A) → cond b x z ≡ cond b x (cond b y z)
twice true x y z = refl
twice false x y z = refl

turned : {A : Type 0} (a b : Bool) (x y z : A) → (a ≡ true → b ≡ true → ⊥) → cond a x (cond b y z) ≡ cond b y (cond a x z)
turned true true x y z never = absurd (never refl refl)
turned true false x y z never = refl
turned false b x y z never = refl

differ : (key new name : List ℕ) → bytes_eq new name ≡ false → bytes_eq key name ≡ true → bytes_eq key new ≡ true → ⊥
differ key new name e a b =
    let same : new ≡ name = sym (same_key key new b) ∙ same_key key name a in
    let never : true ≡ false = sym ((bytes_eq-Decides new name).1 same) ∙ e in cc

-- the state of a name, where one was put among the names
standing_put : (key new : List ℕ) (s : Standing Place) (names : List (Named Place))
    → standing_of key (put new s names) ≡ cond (bytes_eq key new) (Some s) (standing_of key names)
standing_put key new s [] = refl
standing_put key new s (n ∷ names) = put_by (bytes_eq new n.name) refl (standing_put key new s names)
  where
    put_by : (t : Bool) → bytes_eq new n.name ≡ t → standing_of key (put new s names) ≡ cond (bytes_eq key new) (Some s) (standing_of key names)
        → standing_of key (cond t (record { name = n.name; standing = s } ∷ names) (n ∷ put new s names))
        ≡ cond (bytes_eq key new) (Some s) (cond (bytes_eq key n.name) (Some n.standing) (standing_of key names))
    put_by true e later = twice (bytes_eq key n.name) (Some s) (Some n.standing) (standing_of key names)
        ∙ ap (λ k. cond (bytes_eq key k) (Some s) (cond (bytes_eq key n.name) (Some n.standing) (standing_of key names)))
        (sym (same_key new n.name e))
    put_by false e later = ap (λ o. cond (bytes_eq key n.name) (Some n.standing) o) later
        ∙ turned (bytes_eq key n.name) (bytes_eq key new) (Some n.standing) (Some s) (standing_of key names)
        (differ key new n.name e)

-- Lemmas about declarations

told_declared : (system : Option Meaning) (s : Option (Standing Place)) (number : ℕ) (m : Meaning) (place : Place) (b : Bool)
    → meaning_told (found_as system (cond b (Some (IsDeclared number m place)) s)) ≡ cond b (Some m) (meaning_told (found_as system s))
told_declared system s number m place true = refl
told_declared system s number m place false = refl

-- a name that is free is declared
pub is_declared : (limits : Limits) (name : List ℕ) (place : Place) (m : Meaning) (o : Out) → declare_fault limits name o.names ≡ None
    → Declares name m o (declared limits name place m o)
is_declared limits name place m o free =
    let is : declared limits name place m o ≡ record o { names = with_declared name place m o.names } =
    ap (λ f. declared_by limits f name place m o) free in
    subst (λ p. Declares name m o p) (sym is) (record {
      names = λ t. ap (λ s. meaning_told (found_as (system_meaning o.names.is_debugging t) s))
          (standing_put (folded t) (folded name) (IsDeclared o.names.declared m place) o.names.names)
          ∙ told_declared (system_meaning o.names.is_debugging t) (standing_of (folded t) o.names.names) o.names.declared m place
          (bytes_eq (folded t) (folded name));
      counts = refl;
    })

-- a name that is free has its meaning, and no table changes
pub found_declared : (limits : Limits) (n : Name) (m : Meaning) (o : Out) → declare_fault limits n.bytes o.names ≡ None
    → found_in n.bytes (name_declared limits n m o).names ≡ Found.Declared m n.place
found_declared limits n m o free =
    let key = folded n.bytes in
    let same : bytes_eq key key ≡ true = (bytes_eq-Decides key key).1 refl in
    ap (λ f. found_in n.bytes (declared_by limits f n.bytes n.place m o).names) free
    ∙ ap (found_as (system_meaning o.names.is_debugging n.bytes))
    (standing_put key key (IsDeclared o.names.declared m n.place) o.names.names
    ∙ ap (λ b. cond b (Some (IsDeclared o.names.declared m n.place)) (standing_of key o.names.names)) same)

pub declared_tables : (limits : Limits) (n : Name) (m : Meaning) (o : Out) → (name_declared limits n m o).tables ≡ o.tables
declared_tables limits n m o = by (declare_fault limits n.bytes o.names)
  where
    by : (f : Option (DeclareFault Place)) → (declared_by limits f n.bytes n.place m o).tables ≡ o.tables
    by None = refl
    by (Some DeclareFault.Full) = refl
    by (Some (DeclareFault.Present place)) = refl
    by (Some DeclareFault.Memory) = refl

-- Lemmas about uses

system_same : (debugging : Bool) (a b : List ℕ) → folded a ≡ folded b → system_meaning debugging a ≡ system_meaning debugging b
system_same debugging a b e = ap (λ k. meaning_if debugging (find (λ known. bytes_eq k (folded (name_of known))) system_names)) e

module _ (name : List ℕ) (place : Place) (o : Out) where
  -- a name that is the same in any case means the same
  same_told : (t : List ℕ) → folded t ≡ folded name → names_of o t ≡ names_of o name
  same_told t e = ap (λ m. meaning_told (found_as m (standing_of (folded t) o.names.names))) (system_same o.names.is_debugging t name e)
      ∙ ap (λ k. meaning_told (found_as (system_meaning o.names.is_debugging name) (standing_of k o.names.names))) e

  used_told : (t : List ℕ) → found_in name o.names ≡ Found.Unknown → (b : Bool) → bytes_eq (folded t) (folded name) ≡ b
      → meaning_told (found_as (system_meaning o.names.is_debugging t)
      (cond b (Some (IsUsed name place)) (standing_of (folded t) o.names.names)))
      ≡ names_of o t
  used_told t unknown true e = sym (same_told t (same_key (folded t) (folded name) e) ∙ ap meaning_told unknown)
  used_told t unknown false e = refl

  used_by : (f : Found Place) → found_in name o.names ≡ f → (t : List ℕ)
      → names_of (record o { names = with_used_by f name place o.names }) t ≡ names_of o t
  used_by Found.Unknown e t = ap (λ s. meaning_told (found_as (system_meaning o.names.is_debugging t) s))
      (standing_put (folded t) (folded name) (IsUsed name place) o.names.names)
      ∙ used_told t e (bytes_eq (folded t) (folded name)) refl
  used_by other e t = refl

  referred_keeps_by : (limits : Limits) (r : Option ReferFault) → Keeps o (referred_by limits r name place o)
  referred_keeps_by limits None = record { names = used_by (found_in name o.names) refl; counts = refl }
  referred_keeps_by limits (Some fault) = record { names = λ t. refl; counts = refl }

  pub referred_keeps : (limits : Limits) → Keeps o (referred limits name place o)
  referred_keeps limits = referred_keeps_by limits (refer_fault limits name o.names)
