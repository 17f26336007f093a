-- A token that is faulty by itself, and the end of a source, fit nowhere: their atoms are of no class and begin no rule.
use Rattle.std.proofs.{Math.Bool.and-false, lemmas.List.get_or_past}
use Rattle.std.proofs.Common.{◌≡◌, ℕ, ◌≤◌, List, [], ◌∷◌, length, ◌&&◌, ◌||◌, Bool, true, false, refl, ap, ◌∙◌, arith, inl, inr, lit≤}
use Rattle.std.proofs.lemmas.Bool.{agree_below, agree_below_at, cases_lt}
use Rattle.inf_syntax.specs.{Classes.classes, declared.actions.Action.Action}
use Rattle.inf_machine.specs.{Grammar.has, Machine.fits, declared.symbols.Symbol.Symbol}
use Rattle.inf_grammar.specs.{Facts.beginnings, Language.grammar, Language.known}
use Rattle.inf_unit.specs.Atoms.{bad_atom, end_atom}

abbrev never : ℕ → Bool
never n = false

bad_classes : agree_below (λ class. has (grammar.atoms_of class) bad_atom) never 128 ≡ true
unfolding grammar
bad_classes = refl

end_classes : agree_below (λ class. has (grammar.atoms_of class) end_atom) never 128 ≡ true
unfolding grammar
end_classes = refl

bad_rules : agree_below (λ rule. has (known.begins rule) bad_atom) never 256 ≡ true
unfolding known
bad_rules = refl

end_rules : agree_below (λ rule. has (known.begins rule) end_atom) never 256 ≡ true
unfolding known
end_rules = refl

classes_length : length classes ≤ 128
classes_length = lit≤ tt

beginnings_length : length beginnings ≤ 256
beginnings_length = lit≤ tt

-- behind the last class and the last rule there is nothing
classes_past : (class : ℕ) → 128 ≤ class → grammar.atoms_of class ≡ 0
unfolding grammar
classes_past class l = get_or_past classes class 0 (omega (arith, classes_length))

rules_past : (rule : ℕ) → 256 ≤ rule → known.begins rule ≡ 0
unfolding known
rules_past rule l = get_or_past beginnings rule 0 (omega (arith, beginnings_length))

-- An atom is of no class and begins no rule.
record IsOut (atom : ℕ) : Type 0 where
  classes : (class : ℕ) → has (grammar.atoms_of class) atom ≡ false
  rules : (rule : ℕ) → has (known.begins rule) atom ≡ false

out : (atom : ℕ) → agree_below (λ class. has (grammar.atoms_of class) atom) never 128 ≡ true →
    agree_below (λ rule. has (known.begins rule) atom) never 256 ≡ true → has 0 atom ≡ false → IsOut atom
out atom c r z = record {
  classes = λ class. elim (cases_lt class 128) [
    | inl l ↦ agree_below_at (λ n. has (grammar.atoms_of n) atom) never 128 class c l
    | inr l ↦ ap (λ set. has set atom) (classes_past class l) ∙ z
  ];
  rules = λ rule. elim (cases_lt rule 256) [
    | inl l ↦ agree_below_at (λ n. has (known.begins n) atom) never 256 rule r l
    | inr l ↦ ap (λ set. has set atom) (rules_past rule l) ∙ z
  ];
}

fits_nothing : (atom : ℕ) → IsOut atom → (symbols : List (Symbol Action)) → fits grammar known atom symbols ≡ false
fits_nothing atom o [] = refl
fits_nothing atom o (Symbol.Token class ∷ symbols) = o.classes class
fits_nothing atom o (Symbol.Act a ∷ symbols) = fits_nothing atom o symbols
fits_nothing atom o (Symbol.Rule rule ∷ symbols) = ap (λ b. b || (known.is_empty rule && fits grammar known atom symbols)) (o.rules rule)
    ∙ ap (λ b. known.is_empty rule && b) (fits_nothing atom o symbols) ∙ and-false (known.is_empty rule)

pub bad_fits_nothing : (symbols : List (Symbol Action)) → fits grammar known bad_atom symbols ≡ false
bad_fits_nothing symbols = fits_nothing bad_atom (out bad_atom bad_classes bad_rules refl) symbols

pub end_fits_nothing : (symbols : List (Symbol Action)) → fits grammar known end_atom symbols ≡ false
end_fits_nothing symbols = fits_nothing end_atom (out end_atom end_classes end_rules refl) symbols
