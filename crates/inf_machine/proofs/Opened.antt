-- The symbols behind a rule stay as they are where an atom opens the rule.
use Rattle.std.proofs.{lemmas.Bool.cond-true, lemmas.Bool.or_left, lemmas.List.append_assoc}
use Rattle.std.proofs.Common.{◌≡◌, ℕ, zero, suc, ◌+◌, ◌≤◌, List, [], ◌∷◌, ◌++◌, true, false, ◌&&◌, refl, sym, ◌∙◌, ap, arith}
use Rattle.inf_machine.specs.{Grammar.Grammar, Grammar.has, Laws.IsDecided, declared.symbols.Symbol.Symbol}
use Rattle.inf_machine.specs.Machine.{Known, Taken, fits, chosen, after, stepped, work, taken, opened}
use Rattle.inf_machine.proofs.Taking.{chosen_fits, chosen_less, some_work}

module _ {A : Type 0} where
  -- the result of taking a token with these symbols behind those that are left
  abbrev pub before : Taken A → List (Symbol A) → Taken A
  before t symbols = record { actions = t.actions; left = t.left ++ symbols }

  stepped_before : (g : Grammar A) (k : Known) → IsDecided g k → (atom n : ℕ) (xs symbols : List (Symbol A)) → fits g k atom xs ≡ true →
      work k atom xs ≤ n → stepped g k atom n (xs ++ symbols) ≡ before (stepped g k atom n xs) symbols
  stepped_before g k d atom zero xs symbols f l = absurd (omega (arith, some_work g k d atom xs f))
  stepped_before g k d atom (suc n) [] symbols f l = cc
  stepped_before g k d atom (suc n) (Symbol.Token class ∷ xs) symbols f l = refl
  stepped_before g k d atom (suc n) (Symbol.Act a ∷ xs) symbols f l = ap (after a) (stepped_before g k d atom n xs symbols f (omega arith))
  stepped_before g k d atom (suc n) (Symbol.Rule rule ∷ xs) symbols f l =
      let row = chosen g k atom rule in
      ap (stepped g k atom n) (sym (append_assoc row xs symbols))
      ∙ stepped_before g k d atom n (row ++ xs) symbols (chosen_fits g k d atom rule xs f) (omega (arith, chosen_less g k d atom rule xs f))

  -- an atom opens a rule that it begins before any symbols as it opens the rule alone
  pub opened_on : (g : Grammar A) (k : Known) → IsDecided g k → (atom rule : ℕ) (symbols : List (Symbol A)) →
      has (k.begins rule) atom ≡ true → taken g k atom (Symbol.Rule rule ∷ symbols) ≡ before (opened g k rule atom) symbols
  opened_on g k d atom rule symbols b =
      let alone : List (Symbol A) = Symbol.Rule rule ∷ [] in
      let same : work {A = A} k atom (Symbol.Rule rule ∷ symbols) ≡ work {A = A} k atom alone =
      ap (λ n. k.steps rule + n) (cond-true {A = ℕ} (has (k.begins rule) atom) 0 (work k atom symbols) b ∙ sym
      (cond-true {A = ℕ} (has (k.begins rule) atom) 0 0 b)) in
      ap (λ n. stepped g k atom n (Symbol.Rule rule ∷ symbols)) same ∙ stepped_before g k d atom (work {A = A} k atom alone) alone symbols
      (or_left (has (k.begins rule) atom) (k.is_empty rule && false) b) (omega arith)
