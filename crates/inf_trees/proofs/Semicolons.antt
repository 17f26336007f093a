-- The semicolon behind a unit: it opens no bracket, and has no report.
use Rattle.std.proofs.lemmas.Bool.{eqb-false, eqb-true}
use Rattle.std.proofs.lemmas.Nat.Bits.{bit_at-pow_other}
use Rattle.std.proofs.Common.{◌≡◌, ℕ, ◌^◌, List, [], ◌∷◌, ◌++◌, Bool, true, false, ◌==◌, refl, sym, ◌∙◌, ap}
use Rattle.inf_scanner.specs.declared.tokens.Mark.{Mark}
use Rattle.inf_machine.specs.Grammar.{has}
use Rattle.inf_syntax.specs.Atoms.{mark_atom}
use Rattle.inf_grammar.specs.Language.{grammar}
use Rattle.inf_unit.specs.Units.{Unit as UnitAtHand, over, taken}
use Rattle.inf_compilation.specs.{Actions.Compilation, Actions.opens, Actions.took, Context.Context}
use Rattle.inf_statement_laws.specs.Readings.{Seen}
use Rattle.inf_expression_laws.specs.Gathered.{AreSeen, IsSeen}
use Rattle.inf_language.specs.Texts.{atoms_of, tokens_of}
use Rattle.inf_language.proofs.ExpressionsTold.{nothing_told, took_is_told}
use Rattle.inf_trees.specs.Trees.{told_at}

one_bit : (at atom : ℕ) → has (2 ^ at) atom ≡ true → atom ≡ at
one_bit at atom h = by_same (atom == at) refl
  where
    contrary : false ≡ true → ⊥
    contrary same = cc

    by_same : (b : Bool) → (atom == at) ≡ b → atom ≡ at
    by_same true is = eqb-true atom at is
    by_same false is = absurd (contrary (sym (ap (λ b. b == 1) (bit_at-pow_other at atom (eqb-false atom at is))) ∙ h))

semicolon_class : grammar.atoms_of 0 ≡ 2 ^ mark_atom Mark.Semicolon
unfolding grammar
semicolon_class = refl

pub opens_nothing : (s : Seen) → has (grammar.atoms_of 0) s.atom ≡ true → IsSeen s.atom s.token → opens s.token.kind ≡ false
opens_nothing s h is =
    let atom : s.atom ≡ mark_atom Mark.Semicolon =
    one_bit (mark_atom Mark.Semicolon) s.atom (sym (ap (λ set. has set s.atom) semicolon_class) ∙ h) in
    ap opens (is Mark.Semicolon atom)

-- Behind a unit that is over it ends that, and changes nothing else.
pub over_taken : (context : Context) (s : Seen) (u : UnitAtHand) (w : Compilation) → opens s.token.kind ≡ false → w.unit ≡ over true u
    → took context s.token w ≡ record w { unit = over false u }
over_taken context s u w plain is = took_is_told context s.token w.unit w
    ∙ (ap (λ x. record (told_at context (taken s.token x) s.token w) { unit = taken s.token x }) is
    ∙ ap (λ (x : Compilation). record x { unit = over false u }) (nothing_told context s.token u.depth w plain))

-- the last token of some, with its atom
pub last_atom : (tokens : List Seen) (last : Seen) (front : List ℕ) (atom : ℕ) → atoms_of tokens ≡ front
    → atoms_of (tokens ++ last ∷ []) ≡ front ++ atom ∷ [] → last.atom ≡ atom
last_atom [] last [] atom same all = cc
last_atom [] last (a ∷ front) atom same all = cc
last_atom (s ∷ tokens) last [] atom same all = cc
last_atom (s ∷ tokens) last (a ∷ front) atom same all = last_atom tokens last front atom (rest_of same) (rest_of all)
  where
    rest_of : {x y : ℕ} {xs ys : List ℕ} → x ∷ xs ≡ y ∷ ys → xs ≡ ys
    rest_of e = cc

pub last_seen : (tokens : List Seen) (last : Seen) → AreSeen (atoms_of (tokens ++ last ∷ [])) (tokens_of (tokens ++ last ∷ []))
    → IsSeen last.atom last.token
last_seen [] last are = are.0
last_seen (s ∷ tokens) last are = last_seen tokens last are.1
