-- The rest of a piece at each of its tokens: there is none behind the last one, since each piece ends with a token.
use Rattle.std.proofs.Common.{◌≡◌, ◌⊎◌, inl, inr, ℕ, zero, suc, List, [], ◌∷◌, ◌++◌, Bool, true, false, Some, refl, sym, ap, subst}
use Rattle.std.proofs.Common.{append-nil, true≢false}
use Rattle.std.proofs.lemmas.Bool.{and_parts}
use Rattle.inf_machine.specs.{Laws.IsDecided, Pieces.all_rows, Pieces.closes, Pieces.last_symbol, declared.symbols.Symbol.Symbol}
use Rattle.inf_machine.specs.Grammar.{Event, Grammar, IsOneOf, Leads, Row, action, first, here, later, row, token}
use Rattle.inf_machine.specs.Machine.{Known, chosen, fits, stepped, taken, work}
use Rattle.inf_machine.proofs.Taking.{choice, chosen_fits}
use Rattle.inf_syntax.specs.declared.actions.Action.{Action}
use Rattle.inf_grammar.specs.{Evaluated.language_is_decided, Language.grammar, Language.known}
use Rattle.inf_reader.specs.{Handing.is_empty, Reading.piece_rule}
use Rattle.inf_program.specs.definition.Fronts.{is_whole}

-- Lemmas about symbols that end with a token

-- the texts of symbols end with a token, as rules show up to some depth
pub record Closes (g : Grammar Action) (symbols : List (Symbol Action)) : Type 0 where
  pub deep : ℕ
  pub closes_there : closes g (last_symbol symbols) deep ≡ true

each_row : (test : List (Symbol Action) → Bool) (rows : List (Row Action)) (r : Row Action) → IsOneOf r rows → all_rows test rows ≡ true
    → test r.parts ≡ true
each_row test [] r m e = elim m [ ]
each_row test (r ∷ rows) r' first e = (and_parts (test r.parts) (all_rows test rows) e).0
each_row test (y ∷ rows) r (later m) e = each_row test rows r m (and_parts (test y.parts) (all_rows test rows) e).1

last_append : (xs : List (Symbol Action)) (y : Symbol Action) (ys : List (Symbol Action))
    → last_symbol (xs ++ y ∷ ys) ≡ last_symbol (y ∷ ys)
last_append [] y ys = refl
last_append (x ∷ []) y ys = refl
last_append (x ∷ z ∷ xs) y ys = last_append (z ∷ xs) y ys

closes_row : (g : Grammar Action) (rule : ℕ) (r : Row Action) (symbols : List (Symbol Action)) → IsOneOf r (g.rows_of rule) → (n : ℕ)
    → closes g (last_symbol (Symbol.Rule rule ∷ symbols)) n ≡ true → Closes g (r.parts ++ symbols)
closes_row g rule r [] m zero c = cc
closes_row g rule r [] m (suc n) c = record {
  deep = n;
  closes_there = subst (λ parts. closes g (last_symbol parts) n ≡ true) (sym (append-nil r.parts))
      (each_row (λ parts. closes g (last_symbol parts) n) (g.rows_of rule) r m c);
}
closes_row g rule r (s ∷ symbols) m n c = record {
  deep = n;
  closes_there = subst (λ l. closes g l n ≡ true) (sym (last_append r.parts s symbols)) c;
}

-- no text of such symbols is empty
some_needed : (g : Grammar Action) {symbols : List (Symbol Action)} {events : List (Event Action)} → Leads g symbols [] events [] → (n : ℕ)
    → closes g (last_symbol symbols) n ≡ true → ⊥
some_needed g here n c = cc
some_needed g (action {symbols = []} l) n c = cc
some_needed g (action {symbols = s ∷ symbols} l) n c = some_needed g l n c
some_needed g (row {rule} {r} {symbols} m free l) n c =
    let k = closes_row g rule r symbols m n c in some_needed g l k.deep k.closes_there

-- Behind a token the symbols that are left end with a token, too, or there are none.
closes_left : (g : Grammar Action) (k : Known) → IsDecided g k → (atom n : ℕ) (symbols : List (Symbol Action))
    → fits g k atom symbols ≡ true → Closes g symbols
    → ((stepped g k atom n symbols).left ≡ []) ⊎ Closes g (stepped g k atom n symbols).left
closes_left g k d atom zero symbols f c = inr c
closes_left g k d atom (suc n) [] f c = inl refl
closes_left g k d atom (suc n) (Symbol.Token class ∷ []) f c = inl refl
closes_left g k d atom (suc n) (Symbol.Token class ∷ s ∷ symbols) f c = inr (record { deep = c.deep; closes_there = c.closes_there })
closes_left g k d atom (suc n) (Symbol.Act a ∷ []) f c = absurd (true≢false (sym c.closes_there))
closes_left g k d atom (suc n) (Symbol.Act a ∷ s ∷ symbols) f c =
    closes_left g k d atom n (s ∷ symbols) f (record { deep = c.deep; closes_there = c.closes_there })
closes_left g k d atom (suc n) (Symbol.Rule rule ∷ symbols) f c =
    let o = choice g k d atom rule symbols f in
    closes_left g k d atom n (chosen g k atom rule ++ symbols) (chosen_fits g k d atom rule symbols f)
    (subst (λ parts. Closes g (parts ++ symbols)) (sym o.is) (closes_row g rule o.row symbols o.one c.deep c.closes_there))

-- Lemmas about the rest of a piece

abbrev pub IsRest : List (Symbol Action) → Type 0
IsRest symbols = (symbols ≡ []) ⊎ Closes grammar symbols

piece_closes : closes grammar (Some (Symbol.Rule piece_rule)) 3 ≡ true
unfolding grammar
piece_closes = refl

pub piece_is_rest : IsRest (Symbol.Rule piece_rule ∷ [])
piece_is_rest = inr (record { deep = 3; closes_there = piece_closes })

pub rest_left : (atom : ℕ) (symbols : List (Symbol Action)) → fits grammar known atom symbols ≡ true → IsRest symbols
    → IsRest (taken grammar known atom symbols).left
rest_left atom symbols f (inl e) = inl (ap (λ (xs : List (Symbol Action)). (taken grammar known atom xs).left) e)
rest_left atom symbols f (inr c) = closes_left grammar known language_is_decided atom (work known atom symbols) symbols f c

pub none_left : (symbols : List (Symbol Action)) {events : List (Event Action)} → Leads grammar symbols [] events [] → IsRest symbols
    → symbols ≡ []
none_left symbols l (inl e) = e
none_left symbols l (inr c) = absurd (some_needed grammar l c.deep c.closes_there)

-- something is left where more of a piece is to come
pub some_left : {symbols left : List (Symbol Action)} {atoms : List ℕ} {events : List (Event Action)}
    → Leads grammar symbols atoms events left → is_whole events left ≡ false → is_empty symbols ≡ false
some_left here e = e
some_left (token h l) e = refl
some_left (action l) e = refl
some_left (row m free l) e = refl

-- an atom fits where something is left
pub fits_some : (atom : ℕ) (symbols : List (Symbol Action)) → fits grammar known atom symbols ≡ true → is_empty symbols ≡ false
fits_some atom [] f = absurd (true≢false (sym f))
fits_some atom (s ∷ symbols) f = refl
