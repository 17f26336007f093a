-- Rows of the grammar before a token: the row that a derivation takes is the one that the token chooses. A text of a piece ends with a
-- token.
use Rattle.std.proofs.Common.{◌≡◌, ℕ, zero, suc, ◌≤◌, List, [], ◌∷◌, ◌++◌, Bool, true, false, ◌&&◌, Some, refl, sym, ◌∙◌, ap, subst, arith}
use Rattle.std.proofs.Common.{append-nil, if◌then◌else◌, inl, inr, ◌⊎◌, true≢false}
use Rattle.std.proofs.lemmas.Bool.{and_from, and_parts, both_ways, cond-true, false_from_ne_true, or_cases, or_left, or_right}
use Rattle.inf_machine.specs.{Laws.IsSpaced, Pieces.all_rows, Pieces.closes, Pieces.last_symbol, declared.symbols.Symbol.Symbol}
use Rattle.inf_machine.specs.Grammar.{Event, IsOneOf, Leads, Row, action, first, has, here, later, row}
use Rattle.inf_machine.specs.Machine.{can_end, chosen, empty_row, fits}
use Rattle.inf_machine.proofs.Deciding.{Decided, Sound, decided_parts, sound_parts, unless_of_both}
use Rattle.inf_machine.proofs.Rows.{begins_all, begun_is_chosen, empty_counts, empty_is_chosen, fits_append, none_chooses_other}
use Rattle.inf_machine.proofs.SourcePieces.{Closed}
use Rattle.inf_syntax.specs.declared.actions.Action.{Action}
use Rattle.inf_grammar.specs.{Evaluated.language_is_decided, Language.grammar, Language.known}
use Rattle.inf_reader.specs.Reading.{piece_rule}

-- Lemmas about the row that is chosen

pub record Only (atom rule : ℕ) (r : Row Action) (symbols : List (Symbol Action)) : Type 0 where
  pub fits_here : fits grammar known atom (Symbol.Rule rule ∷ symbols) ≡ true
  pub is : chosen grammar known atom rule ≡ r.parts

pub only : (atom rule : ℕ) (r : Row Action) (symbols : List (Symbol Action)) → IsOneOf r (grammar.rows_of rule)
    → has r.unless atom ≡ false → IsSpaced grammar known (Symbol.Rule rule ∷ symbols) → fits grammar known atom (r.parts ++ symbols) ≡ true
    → Only atom rule r symbols
only atom rule r symbols m free spaced f = by_begun (fits grammar known atom r.parts) refl
  where
    of_rule : Decided grammar known rule
    of_rule = decided_parts grammar known rule (language_is_decided rule)

    sound : Sound grammar known rule r
    sound = sound_parts grammar known rule r (of_rule.sound r m)

    -- the atom begins the row, or fits behind it
    by_begun : (b : Bool) → fits grammar known atom r.parts ≡ b → Only atom rule r symbols
    by_begun true e =
        let begun : has (known.begins rule) atom ≡ true =
        ap (λ s. has s atom) (sym of_rule.whole) ∙ begins_all grammar known atom (grammar.rows_of rule) r m e in
        record {
          fits_here = or_left (has (known.begins rule) atom) (known.is_empty rule && fits grammar known atom symbols) begun;
          is = begun_is_chosen grammar known atom 0 (empty_row known (grammar.rows_of rule)) (grammar.rows_of rule) r m of_rule.apart e;
        }
    by_begun false e =
        let past = elim (or_cases (fits grammar known atom r.parts) (can_end known r.parts && fits grammar known atom symbols)
        (sym (fits_append grammar known atom r.parts symbols) ∙ f)) as
        (λ x. (can_end known r.parts && fits grammar known atom symbols) ≡ true) [
          | inl b ↦ absurd (both_ways (fits grammar known atom r.parts) e b)
          | inr b ↦ b
        ] in
        let both = and_parts (can_end known r.parts) (fits grammar known atom symbols) past in
        let not_begun : has (known.begins rule) atom ≡ false = false_from_ne_true (has (known.begins rule) atom) (λ b.
        both_ways (has r.unless atom) free (unless_of_both grammar known atom rule r sound.preferred both.0 b (spaced.0 atom both.1))) in
        let counted = empty_counts known (grammar.rows_of rule) r m both.0 in
        let empty : known.is_empty rule ≡ true = by_empty (known.is_empty rule) (omega (arith, counted, of_rule.empties)) in
        record {
          fits_here = or_right (has (known.begins rule) atom) (known.is_empty rule && fits grammar known atom symbols)
              (and_from (known.is_empty rule) (fits grammar known atom symbols) empty both.1);
          is = none_chooses_other grammar known atom (empty_row known (grammar.rows_of rule)) (grammar.rows_of rule)
              (ap (λ s. has s atom) of_rule.whole ∙ not_begun)
              ∙ empty_is_chosen known (grammar.rows_of rule) r m both.0
              (omega (arith, of_rule.empties, cond-true {A = ℕ} (known.is_empty rule) 1 0 empty));
        }
      where
        by_empty : (b : Bool) → 1 ≤ (if b then 1 else 0) → b ≡ true
        by_empty true l = refl
        by_empty false l = absurd (omega arith)

-- Lemmas about symbols that end with a token

-- symbols that end with a token, or none
abbrev pub EndWithToken : List (Symbol Action) → Type 0
EndWithToken symbols = (symbols ≡ []) ⊎ Closed grammar symbols

row_of_all : (test : List (Symbol Action) → Bool) (rows : List (Row Action)) (r : Row Action) → IsOneOf r rows → all_rows test rows ≡ true
    → test r.parts ≡ true
row_of_all test [] r m e = elim m [ ]
row_of_all test (r ∷ rows) r' first e = (and_parts (test r.parts) (all_rows test rows) e).0
row_of_all test (y ∷ rows) r (later m) e = row_of_all test rows r m (and_parts (test y.parts) (all_rows test rows) e).1

last_behind : (xs : List (Symbol Action)) (y : Symbol Action) (ys : List (Symbol Action))
    → last_symbol (xs ++ y ∷ ys) ≡ last_symbol (y ∷ ys)
last_behind [] y ys = refl
last_behind (x ∷ []) y ys = refl
last_behind (x ∷ z ∷ xs) y ys = last_behind (z ∷ xs) y ys

row_closed : (rule : ℕ) (r : Row Action) (symbols : List (Symbol Action)) → IsOneOf r (grammar.rows_of rule) → (n : ℕ)
    → closes grammar (last_symbol (Symbol.Rule rule ∷ symbols)) n ≡ true → Closed grammar (r.parts ++ symbols)
row_closed rule r [] m zero c = absurd (true≢false (sym c))
row_closed rule r [] m (suc n) c = (
  n,
  subst (λ parts. closes grammar (last_symbol parts) n ≡ true) (sym (append-nil r.parts))
      (row_of_all (λ parts. closes grammar (last_symbol parts) n) (grammar.rows_of rule) r m c),
)
row_closed rule r (s ∷ symbols) m n c = (n, subst (λ l. closes grammar l n ≡ true) (sym (last_behind r.parts s symbols)) c)

not_none : (x : Symbol Action) (symbols : List (Symbol Action)) → x ∷ symbols ≡ [] → ⊥
not_none x symbols none = cc

pub row_ends : (rule : ℕ) (r : Row Action) (symbols : List (Symbol Action)) → IsOneOf r (grammar.rows_of rule)
    → EndWithToken (Symbol.Rule rule ∷ symbols) → EndWithToken (r.parts ++ symbols)
row_ends rule r symbols m (inl none) = absurd (not_none (Symbol.Rule rule) symbols none)
row_ends rule r symbols m (inr c) = inr (row_closed rule r symbols m c.0 c.1)

pub ends_behind : (x : Symbol Action) (symbols : List (Symbol Action)) → EndWithToken (x ∷ symbols) → EndWithToken symbols
ends_behind x [] ends = inl refl
ends_behind x (y ∷ symbols) (inl none) = absurd (not_none x (y ∷ symbols) none)
ends_behind x (y ∷ symbols) (inr c) = inr c

-- a text of symbols that end with a token has one
some_needed : {symbols : List (Symbol Action)} {events : List (Event Action)} → Leads grammar symbols [] events [] → (n : ℕ)
    → closes grammar (last_symbol symbols) n ≡ true → ⊥
some_needed here n c = true≢false (sym c)
some_needed (action {symbols = []} leads) n c = true≢false (sym c)
some_needed (action {symbols = s ∷ symbols} leads) n c = some_needed leads n c
some_needed (row {rule} {r} {symbols} m free leads) n c =
    let k = row_closed rule r symbols m n c in some_needed leads k.0 k.1

-- no symbol is left where no token is
pub none_left : {symbols : List (Symbol Action)} {events : List (Event Action)} → Leads grammar symbols [] events [] → EndWithToken symbols
    → symbols ≡ []
none_left leads (inl none) = none
none_left leads (inr c) = absurd (some_needed leads c.0 c.1)

pieces_close : closes grammar (Some (Symbol.Rule piece_rule)) 3 ≡ true
unfolding grammar
pieces_close = refl

pub pieces_end : EndWithToken (Symbol.Rule piece_rule ∷ [])
pieces_end = inr (3, pieces_close)
