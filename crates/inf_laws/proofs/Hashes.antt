-- No piece ends with a hash.
use Rattle.std.proofs.Common.{◌≡◌, ℕ, zero, suc, List, [], ◌∷◌, ◌++◌, ◌&&◌, not, Bool, true, false, Option, Some, None, refl, sym, ap}
use Rattle.std.proofs.Common.{subst, ◌∙◌, append-nil}
use Rattle.std.proofs.lemmas.Bool.{and_parts}
use Rattle.inf_machine.specs.{Pieces.all_rows, Pieces.last_symbol, declared.symbols.Symbol.Symbol}
use Rattle.inf_machine.specs.Grammar.{Event, Grammar, IsOneOf, Leads, Row, action, first, has, here, later, row, token}
use Rattle.inf_scanner.specs.declared.tokens.Mark.{Mark}
use Rattle.inf_syntax.specs.{Atoms.mark_atom, declared.actions.Action.Action}
use Rattle.inf_grammar.specs.{Language.grammar, Sources.piece_rule}
use Rattle.inf_laws.specs.Hashes.{NoPieceEndsWithAHash}

-- whether the texts of a symbol end with a token that is none of one atom, found within `n` rules
abbrev closes_without : Grammar Action → ℕ → Option (Symbol Action) → ℕ → Bool
closes_without g atom None n = false
closes_without g atom (Some (Symbol.Token class)) n = not (has (g.atoms_of class) atom)
closes_without g atom (Some (Symbol.Act a)) n = false
closes_without g atom (Some (Symbol.Rule rule)) zero = false
closes_without g atom (Some (Symbol.Rule rule)) (suc n) = all_rows (λ parts. closes_without g atom (last_symbol parts) n) (g.rows_of rule)

each_row : (test : List (Symbol Action) → Bool) (rows : List (Row Action)) (r : Row Action) → IsOneOf r rows → all_rows test rows ≡ true →
    test r.parts ≡ true
each_row test [] r m e = elim m [ ]
each_row test (r ∷ rows) r' first e = (and_parts (test r.parts) (all_rows test rows) e).0
each_row test (y ∷ rows) r (later m) e = each_row test rows r m (and_parts (test y.parts) (all_rows test rows) e).1

last_append : (xs : List (Symbol Action)) (y : Symbol Action) (ys : List (Symbol Action)) →
    last_symbol (xs ++ y ∷ ys) ≡ last_symbol (y ∷ ys)
last_append [] y ys = refl
last_append (x ∷ []) y ys = refl
last_append (x ∷ z ∷ xs) y ys = last_append (z ∷ xs) y ys

record Closes (g : Grammar Action) (atom : ℕ) (symbols : List (Symbol Action)) : Type 0 where
  deep : ℕ
  closes : closes_without g atom (last_symbol symbols) deep ≡ true

closes_row : (g : Grammar Action) (atom rule : ℕ) (r : Row Action) (symbols : List (Symbol Action)) → IsOneOf r (g.rows_of rule) → (n : ℕ) →
    closes_without g atom (last_symbol (Symbol.Rule rule ∷ symbols)) n ≡ true
    → Closes g atom (r.parts ++ symbols)
closes_row g atom rule r [] m zero c = cc
closes_row g atom rule r [] m (suc n) c = record {
  deep = n;
  closes = subst (λ parts. closes_without g atom (last_symbol parts) n ≡ true) (sym (append-nil r.parts))
      (each_row (λ parts. closes_without g atom (last_symbol parts) n) (g.rows_of rule) r m c);
}
closes_row g atom rule r (s ∷ symbols) m n c = record {
  deep = n;
  closes = subst (λ l. closes_without g atom l n ≡ true) (sym (last_append r.parts s symbols)) c;
}

-- a text of such a symbol has a token
some_needed : (g : Grammar Action) (atom : ℕ) {symbols : List (Symbol Action)} {events : List (Event Action)} →
    Leads g symbols [] events [] → (n : ℕ) → closes_without g atom (last_symbol symbols) n ≡ true → ⊥
some_needed g atom here n c = cc
some_needed g atom (action {symbols = []} l) n c = cc
some_needed g atom (action {symbols = s ∷ symbols} l) n c = some_needed g atom l n c
some_needed g atom (row {rule} {r} {symbols} m free l) n c =
    let k = closes_row g atom rule r symbols m n c in some_needed g atom l k.deep k.closes

none_behind : (front : List ℕ) (atom : ℕ) → [] ≡ front ++ atom ∷ [] → ⊥
none_behind [] atom e = cc
none_behind (x ∷ front) atom e = cc

not_both : (b : Bool) → b ≡ true → not b ≡ true → ⊥
not_both true e f = cc
not_both false e f = cc

not_last : (g : Grammar Action) (atom : ℕ) {symbols : List (Symbol Action)} {atoms : List ℕ} {events : List (Event Action)} →
    Leads g symbols atoms events [] → (n : ℕ) → closes_without g atom (last_symbol symbols) n ≡ true
    → (front : List ℕ) → atoms ≡ front ++ atom ∷ [] → ⊥
not_last g atom here n c front e = cc
not_last g atom (token {class} {atom = other} {symbols = []} h here) n c [] e =
    not_both (has (g.atoms_of class) atom) (subst (λ x. has (g.atoms_of class) x ≡ true) (cc) h) c
not_last g atom (token {class} {atom = other} {symbols = []} h here) n c (x ∷ front) e = none_behind front atom (cc)
not_last g atom (token {symbols = s ∷ symbols} {atoms = atoms} {events = events} h l) n c [] e =
    let none : atoms ≡ [] = cc in some_needed g atom (subst (λ xs. Leads g (s ∷ symbols) xs events []) none l) n c
not_last g atom (token {symbols = s ∷ symbols} h l) n c (x ∷ front) e = not_last g atom l n c front (cc)
not_last g atom (action {symbols = []} l) n c front e = cc
not_last g atom (action {symbols = s ∷ symbols} l) n c front e = not_last g atom l n c front e
not_last g atom (row {rule} {r} {symbols} m free l) n c front e =
    let k = closes_row g atom rule r symbols m n c in not_last g atom l k.deep k.closes front e

hash_closes : closes_without grammar (mark_atom Mark.Hash) (Some (Symbol.Rule piece_rule)) 3 ≡ true
unfolding grammar
hash_closes = refl

pub no_piece_ends_with_a_hash : NoPieceEndsWithAHash
no_piece_ends_with_a_hash front events text = not_last grammar (mark_atom Mark.Hash) text 3 hash_closes front refl
