-- A world that supplies the routines which the code calls.
use Rattle.std.proofs.Common.{arith, ◌≡◌, ℕ, suc, List, [], ◌∷◌, Option, Some, None, Bool, true, false, refl, ◌∙◌, ap, sym, subst, ◌+◌}
use Rattle.std.proofs.Common.{if◌then◌else◌, bytes_eq}
use Rattle.std.proofs.lemmas.Slice.Eq.{bytes_eq-Decides}
use Rattle.inf_area.specs.declared.targets.Target.{Target}
use Rattle.inf_scanner.specs.declared.tokens.Place.{Place}
use Rattle.inf_names.specs.declared.meanings.Meaning.{Meaning}
use Rattle.inf_names.specs.Symbols.{IsDeclared, IsUsed, Named, Standing, folded, index_of, standing_of}
use Rattle.inf_output.specs.{Operands.written, Veneer.name_of, declared.operands.Simple.Simple, declared.veneer.Veneer.Veneer}
use Rattle.inf_interpreter.specs.{Machine.State, Machine.Store, Machine.World, Machine.operand_value, Supplied.named_operand}
use Rattle.inf_interpreter.specs.{Supplied.supplied, Worlds.MayBeRoutine, Worlds.WorldsSupply, Worlds.called_in, Worlds.number_at}
use Rattle.inf_interpreter.specs.{Worlds.number_named, Worlds.number_of, Worlds.routines, Worlds.supplying, Worlds.with_left}
use Rattle.inf_interpreter.proofs.Running.{none_some, same_some}

-- A routine's name stands for the routine's number.
is_named : (v : Veneer) (other : ℕ) → number_named routines (folded (name_of v)) other ≡ number_of v
is_named Veneer.ReadProperty other = refl
is_named others other = refl

-- A call of this number comes to the routine's contract.
is_called : (w : World) (names : List (Named Place)) (v : Veneer) (arguments : List ℕ) (s : Store) →
    called_in w routines s (number_of v) arguments ≡ with_left (supplied (supplying w names) v arguments s)
is_called w names Veneer.ReadProperty arguments s = refl
is_called w names other arguments s = refl

-- The name at the place of a name that is known is this name.
one_more : (n : ℕ) → n + 1 ≡ suc n
one_more n = omega arith

number_found : (key : List ℕ) (other : ℕ) (x : Standing Place) (names : List (Named Place)) → standing_of key names ≡ Some x →
    number_at names (index_of key names) other ≡ number_named routines key other
number_found key other x [] e = none_some e
number_found key other x (n ∷ names) e = go (bytes_eq key n.name) refl (number_found key other x names) e
  where
    go : (b : Bool) → bytes_eq key n.name ≡ b →
        (standing_of key names ≡ Some x → number_at names (index_of key names) other ≡ number_named routines key other) →
        (if b then Some n.standing else standing_of key names) ≡ Some x →
        number_at (n ∷ names) (if b then 0 else index_of key names + 1) other ≡ number_named routines key other
    go true e later h = ap (λ name. number_named routines name other) (sym ((bytes_eq-Decides key n.name).0 e))
    go false e later h = ap (λ k. number_at (n ∷ names) k other) (one_more (index_of key names)) ∙ later h

-- So the operand by which a routine is called has its number as its value.
later_is : (w : World) (v : Veneer) (names : List (Named Place)) (x : Standing Place) → standing_of (folded (name_of v)) names ≡ Some x →
    (s : State) →
    operand_value (supplying w names) (written (Simple.Later (Target.Name (index_of (folded (name_of v)) names)))) s ≡ Some (number_of v, s)
later_is w v names x e s =
    let key = folded (name_of v) in
    let other = w.later (Target.Name (index_of key names)) in
    ap (λ n. Some (n, s)) (number_found key other x names e ∙ is_named v other)

number_is : (w : World) (v : Veneer) (names : List (Named Place)) (y : Simple) (st : Option (Standing Place)) →
    standing_of (folded (name_of v)) names ≡ st → MayBeRoutine st → named_operand st (index_of (folded (name_of v)) names) ≡ Some y →
    (s : State) → operand_value (supplying w names) (written y) s ≡ Some (number_of v, s)
number_is w v names y None e h f s = none_some f
number_is w v names y (Some (IsUsed spelling place)) e h f s =
    subst (λ z. operand_value (supplying w names) (written z) s ≡ Some (number_of v, s)) (same_some f)
    (later_is w v names (IsUsed spelling place) e s)
number_is w v names y (Some (IsDeclared n (Meaning.Routine at) place)) e h f s =
    subst (λ z. operand_value (supplying w names) (written z) s ≡ Some (number_of v, s)) (same_some f)
    (later_is w v names (IsDeclared n (Meaning.Routine at) place) e s)
number_is w v names y (Some (IsDeclared n m place)) e h f s = absurd h

pub worlds_supply : WorldsSupply
worlds_supply w o fits names = record {
  fits = fits;
  numbers = λ v y e s. number_is w v o.names.names y (standing_of (folded (name_of v)) o.names.names) refl (names v) e s;
  contracts = record { comes = λ v arguments s n t e. (0, is_called w o.names.names v arguments s ∙ ap with_left e) };
}
