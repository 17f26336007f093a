-- A directive ends before the last token of its piece, which is a semicolon: the table of the grammar shows it at each stack.
use Rattle.std.proofs.Common.{◌≡◌, ℕ, List, [], ◌∷◌, ◌++◌, Bool, true, false, not, ◌&&◌, ◌||◌, ◌==◌, nat_le, refl, sym, ◌∙◌, ap, subst, arith}
use Rattle.std.proofs.Common.{inl, inr, if◌then◌else◌, true≢false, append-nil}
use Rattle.std.proofs.lemmas.Bool.{agree_below, agree_below_at, and_parts, and_from, cases_lt, eqb-true}
use Rattle.inf_scanner.specs.declared.tokens.Mark.{Mark}
use Rattle.inf_machine.specs.{Laws.IsSpaced, Pieces.all_rows, declared.symbols.Symbol.Symbol}
use Rattle.inf_machine.specs.Grammar.{Event, IsOneOf, Leads, Row, action, first, has, here, later, row, token}
use Rattle.inf_machine.specs.Machine.{Taken, fits, taken, work}
use Rattle.inf_machine.proofs.Taking.{leads_on, spaced_choice, taken_row}
use Rattle.inf_syntax.specs.{Atoms.mark_atom, declared.actions.Action.Action}
use Rattle.inf_grammar.specs.{Evaluated.language_is_decided, Evaluated.rows_past, Language.grammar, Language.known}
use Rattle.inf_unit.specs.{Roles.role_of, declared.roles.Ending.Ending, declared.roles.Role.Role}
use Rattle.inf_reader.specs.Handing.{is_empty}
use Rattle.inf_program.proofs.Chosen.{only}

-- Lemmas about ends of directives

abbrev pub is_directive_end : Role → Bool
is_directive_end (Role.End Ending.Directive) = true
is_directive_end _ = false

abbrev pub ends_directive : Action → Bool
ends_directive a = is_directive_end (role_of a)

-- whether one of the actions is the end of a directive
abbrev pub some_end : List Action → Bool
some_end [] = false
some_end (a ∷ actions) = ends_directive a || some_end actions

-- the rules of files, pieces and directives
abbrev outer : ℕ → Bool
outer rule = nat_le rule 2

-- Tells whether symbols have no end of a directive, by their rules.
abbrev are_clear : List (Symbol Action) → Bool
are_clear [] = true
are_clear (Symbol.Token class ∷ symbols) = are_clear symbols
are_clear (Symbol.Act a ∷ symbols) = not (ends_directive a) && are_clear symbols
are_clear (Symbol.Rule rule ∷ symbols) = not (outer rule) && are_clear symbols

abbrev is_semicolon : List (Symbol Action) → Bool
is_semicolon (Symbol.Token class ∷ []) = class == 0
is_semicolon _ = false

-- Tells whether the end of a directive comes in the symbols before a last semicolon alone.
abbrev pub ends_last : List (Symbol Action) → Bool
ends_last [] = true
ends_last (Symbol.Token class ∷ symbols) = ends_last symbols
ends_last (Symbol.Act a ∷ symbols) = if ends_directive a then is_semicolon symbols else ends_last symbols
ends_last (Symbol.Rule rule ∷ symbols) = if outer rule then nat_le 1 rule && is_empty symbols else ends_last symbols

-- Lemmas by evaluation over the table

abbrev inner_clear : ℕ → Bool
inner_clear rule = outer rule || all_rows are_clear (grammar.rows_of rule)

abbrev pieces_last : ℕ → Bool
pieces_last rule = not (nat_le 1 rule && outer rule) || all_rows ends_last (grammar.rows_of rule)

inner_are_clear : agree_below inner_clear (λ rule. true) 256 ≡ true
unfolding grammar
inner_are_clear = refl

pieces_are_last : agree_below pieces_last (λ rule. true) 256 ≡ true
unfolding grammar
pieces_are_last = refl

pub no_semicolon : has (grammar.atoms_of 0) (mark_atom Mark.Hash) ≡ false
unfolding grammar
no_semicolon = refl

-- Lemmas about rows

row_of_all : (test : List (Symbol Action) → Bool) (rows : List (Row Action)) (r : Row Action) → IsOneOf r rows → all_rows test rows ≡ true
    → test r.parts ≡ true
row_of_all test [] r m h = elim m [ ]
row_of_all test (r ∷ rows) r' first h = (and_parts (test r.parts) (all_rows test rows) h).0
row_of_all test (y ∷ rows) r (later m) h = row_of_all test rows r m (and_parts (test y.parts) (all_rows test rows) h).1

either_past : (b : Bool) (test : List (Symbol Action) → Bool) (rows : List (Row Action)) → rows ≡ [] → (b || all_rows test rows) ≡ true
either_past true test rows e = refl
either_past false test rows e = ap (all_rows test) e

second_holds : (b c : Bool) → b ≡ false → (b || c) ≡ true → c ≡ true
second_holds true c e h = absurd (true≢false e)
second_holds false c e h = h

clear_row : (rule : ℕ) (r : Row Action) → IsOneOf r (grammar.rows_of rule) → outer rule ≡ false → are_clear r.parts ≡ true
clear_row rule r m inner =
    row_of_all are_clear (grammar.rows_of rule) r m (second_holds (outer rule) (all_rows are_clear (grammar.rows_of rule)) inner kept)
  where
    kept : inner_clear rule ≡ true
    kept =
        elim (cases_lt rule 256) [
          | inl l ↦ agree_below_at inner_clear (λ r. true) 256 rule inner_are_clear l
          | inr l ↦ either_past (outer rule) are_clear (grammar.rows_of rule) (rows_past rule l)
        ]

last_row : (rule : ℕ) (r : Row Action) → IsOneOf r (grammar.rows_of rule) → (nat_le 1 rule && outer rule) ≡ true → ends_last r.parts ≡ true
last_row rule r m piece = row_of_all ends_last (grammar.rows_of rule) r m
    (second_holds (not (nat_le 1 rule && outer rule)) (all_rows ends_last (grammar.rows_of rule)) (ap not piece) kept)
  where
    kept : pieces_last rule ≡ true
    kept =
        elim (cases_lt rule 256) [
          | inl l ↦ agree_below_at pieces_last (λ r. true) 256 rule pieces_are_last l
          | inr l ↦ either_past (not (nat_le 1 rule && outer rule)) ends_last (grammar.rows_of rule) (rows_past rule l)
        ]

-- clear symbols before others
act_before : (b : Bool) (symbols : List (Symbol Action)) (is_one : Bool) → not b ≡ true → ends_last symbols ≡ true
    → (if b then is_one else ends_last symbols) ≡ true
act_before true symbols is_one clear last = absurd (true≢false (sym clear))
act_before false symbols is_one clear last = last

last_behind : (xs ys : List (Symbol Action)) → are_clear xs ≡ true → ends_last ys ≡ true → ends_last (xs ++ ys) ≡ true
last_behind [] ys clear last = last
last_behind (Symbol.Token class ∷ xs) ys clear last = last_behind xs ys clear last
last_behind (Symbol.Act a ∷ xs) ys clear last =
    let both = and_parts (not (ends_directive a)) (are_clear xs) clear in
    act_before (ends_directive a) (xs ++ ys) (is_semicolon (xs ++ ys)) both.0 (last_behind xs ys both.1 last)
last_behind (Symbol.Rule rule ∷ xs) ys clear last =
    let both = and_parts (not (outer rule)) (are_clear xs) clear in
    act_before (outer rule) (xs ++ ys) (nat_le 1 rule && is_empty (xs ++ ys)) both.0 (last_behind xs ys both.1 last)

-- a row in place of its rule
row_last : (rule : ℕ) (r : Row Action) (symbols : List (Symbol Action)) → IsOneOf r (grammar.rows_of rule) → (b : Bool) → outer rule ≡ b
    → (if b then nat_le 1 rule && is_empty symbols else ends_last symbols) ≡ true → ends_last (r.parts ++ symbols) ≡ true
row_last rule r symbols m false inner last = last_behind r.parts symbols (clear_row rule r m inner) last
row_last rule r [] m true piece last =
    let both = and_parts (nat_le 1 rule) true last in
    ap ends_last (append-nil r.parts) ∙ last_row rule r m (and_from (nat_le 1 rule) (outer rule) both.0 piece)
row_last rule r (s ∷ symbols) m true piece last = absurd (true≢false (sym (and_parts (nat_le 1 rule) false last).1))

-- Lemmas about tokens

-- Behind a token the end of a directive still comes last. Where it came before the token, this is a semicolon, and nothing is left.
pub record Lasts (atom : ℕ) (now : Taken Action) : Type 0 where
  pub still : ends_last now.left ≡ true
  pub at_end : some_end now.actions ≡ true → is_empty now.left ≡ true
  pub semicolon : some_end now.actions ≡ true → has (grammar.atoms_of 0) atom ≡ true

-- the end of a directive before a semicolon
end_lasts : (a : Action) (atom : ℕ) (symbols : List (Symbol Action)) → is_semicolon symbols ≡ true
    → fits grammar known atom symbols ≡ true → Lasts atom (taken grammar known atom (Symbol.Act a ∷ symbols))
end_lasts a atom (Symbol.Token class ∷ []) one fit = record {
  still = refl;
  at_end = λ _. refl;
  semicolon = λ _. subst (λ (c : ℕ). has (grammar.atoms_of c) atom ≡ true) (eqb-true class 0 one) fit;
}
end_lasts a atom (Symbol.Token class ∷ s ∷ symbols) one fit = absurd (true≢false (sym one))
end_lasts a atom [] one fit = absurd (true≢false (sym one))
end_lasts a atom (Symbol.Act b ∷ symbols) one fit = absurd (true≢false (sym one))
end_lasts a atom (Symbol.Rule rule ∷ symbols) one fit = absurd (true≢false (sym one))

act_lasts : (a : Action) (atom : ℕ) (symbols : List (Symbol Action)) (b : Bool) → ends_directive a ≡ b
    → (if b then is_semicolon symbols else ends_last symbols) ≡ true → fits grammar known atom symbols ≡ true
    → (ends_last symbols ≡ true → Lasts atom (taken grammar known atom symbols)) → Lasts atom
    (taken grammar known atom (Symbol.Act a ∷ symbols))
act_lasts a atom symbols true e last fit on = end_lasts a atom symbols last fit
act_lasts a atom symbols false e last fit on =
    let l : Lasts atom (taken grammar known atom symbols) = on last in
    let same : some_end (a ∷ (taken grammar known atom symbols).actions) ≡ some_end (taken grammar known atom symbols).actions =
    ap (λ b. b || some_end (taken grammar known atom symbols).actions) e in
    record { still = l.still; at_end = λ q. l.at_end (sym same ∙ q); semicolon = λ q. l.semicolon (sym same ∙ q) }

record Taking (atom : ℕ) (symbols : List (Symbol Action)) : Type 0 where
  fits_here : fits grammar known atom symbols ≡ true
  lasts : ends_last symbols ≡ true → Lasts atom (taken grammar known atom symbols)

taking : {atom : ℕ} {symbols left : List (Symbol Action)} {atoms : List ℕ} {events : List (Event Action)}
    → Leads grammar symbols (atom ∷ atoms) events left → IsSpaced grammar known symbols → Taking atom symbols
taking (token f l) spaced = record {
  fits_here = f;
  lasts = λ last. record { still = last; at_end = λ q. absurd (true≢false (sym q)); semicolon = λ q. absurd (true≢false (sym q)) };
}
taking {atom} (action {a} {symbols} l) spaced =
    let on : Taking atom symbols = taking l spaced in
    record { fits_here = on.fits_here; lasts = λ last. act_lasts a atom symbols (ends_directive a) refl last on.fits_here on.lasts }
taking {atom} (row {rule} {r} {symbols} m free l) spaced =
    let on : Taking atom (r.parts ++ symbols) = taking l (spaced_choice grammar known language_is_decided rule r symbols m spaced) in
    let one = only atom rule r symbols m free spaced on.fits_here in
    let same : taken grammar known atom (r.parts ++ symbols) ≡ taken grammar known atom (Symbol.Rule rule ∷ symbols) =
    sym (taken_row grammar known language_is_decided atom rule symbols one.fits_here
    ∙ ap (λ parts. taken grammar known atom (parts ++ symbols)) one.is) in
    record {
      fits_here = one.fits_here;
      lasts = λ last. subst (Lasts atom) same (on.lasts (row_last rule r symbols m (outer rule) refl last));
    }

pub token_lasts : (atom : ℕ) (symbols : List (Symbol Action)) → fits grammar known atom symbols ≡ true → IsSpaced grammar known symbols
    → ends_last symbols ≡ true → Lasts atom (taken grammar known atom symbols)
token_lasts atom symbols fit spaced last =
    (taking (leads_on grammar known language_is_decided atom (work known atom symbols) symbols (omega arith) fit here) spaced).lasts last
