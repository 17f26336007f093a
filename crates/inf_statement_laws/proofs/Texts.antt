-- Texts of the grammar as trees of a depth: each rule with the happenings of one of its rows.
use Rattle.std.proofs.Common.{◌≡◌, ℕ, zero, suc, List, [], ◌∷◌, ◌++◌, refl, sym, ◌∙◌, ap, subst, append_assoc, append-nil}
use Rattle.inf_machine.specs.declared.symbols.Symbol.{Symbol}
use Rattle.inf_machine.specs.Grammar.{Event, Took, Did, IsOneOf, Leads, Row, action, here, row, token}
use Rattle.inf_syntax.specs.declared.actions.Action.{Action}
use Rattle.inf_grammar.specs.Language.{grammar}
use Rattle.inf_unit.specs.Tokens.{SourceToken}
use Rattle.inf_statement_laws.specs.Happenings.{Acts, AreOf, Between, Happening, IsRead, Moment, Takes}

-- the happenings of some symbols, where `Of` says which are those of a rule
abbrev pub Parts : (ℕ → List Happening → Type 0) → List (Symbol Action) → List Happening → Type 0
Parts Of [] hs = hs ≡ []
Parts Of (Symbol.Token class ∷ symbols) hs =
    (t : SourceToken × Between) × (rest : List Happening) × (hs ≡ Takes t.0 t.1 ∷ rest) × Parts Of symbols
    rest
Parts Of (Symbol.Act a ∷ symbols) hs = (at : Moment) × (rest : List Happening) × (hs ≡ Acts at a ∷ rest) × Parts Of symbols rest
Parts Of (Symbol.Rule rule ∷ symbols) hs =
    (front : List Happening) × (rest : List Happening) × (hs ≡ front ++ rest) × Of rule front × Parts Of
    symbols rest

abbrev pub OfRule : ℕ → ℕ → List Happening → Type 0
OfRule zero rule hs = ⊥
OfRule (suc deep) rule hs = (r : Row Action) × IsOneOf r (grammar.rows_of rule) × Parts (OfRule deep) r.parts hs

-- two lists of symbols one behind the other
pub record Split (Of : ℕ → List Happening → Type 0) (xs ys : List (Symbol Action)) (hs : List Happening) : Type 0 where
  pub front : List Happening
  pub rest : List Happening
  pub joined : hs ≡ front ++ rest
  pub of_front : Parts Of xs front
  pub of_rest : Parts Of ys rest

pub split : (Of : ℕ → List Happening → Type 0) (xs ys : List (Symbol Action)) (hs : List Happening) → Parts Of (xs ++ ys) hs
    → Split Of xs ys hs
split Of [] ys hs p = record { front = []; rest = hs; joined = refl; of_front = refl; of_rest = p }
split Of (Symbol.Token class ∷ xs) ys hs p =
    let on = split Of xs ys p.1 p.3 in
    record {
      front = Takes p.0.0 p.0.1 ∷ on.front;
      rest = on.rest;
      joined = p.2 ∙ ap (λ l. Takes p.0.0 p.0.1 ∷ l) on.joined;
      of_front = (p.0, on.front, refl, on.of_front);
      of_rest = on.of_rest;
    }
split Of (Symbol.Act a ∷ xs) ys hs p =
    let on = split Of xs ys p.1 p.3 in
    record {
      front = Acts p.0 a ∷ on.front;
      rest = on.rest;
      joined = p.2 ∙ ap (λ l. Acts p.0 a ∷ l) on.joined;
      of_front = (p.0, on.front, refl, on.of_front);
      of_rest = on.of_rest;
    }
split Of (Symbol.Rule rule ∷ xs) ys hs p =
    let on = split Of xs ys p.1 p.4 in
    record {
      front = p.0 ++ on.front;
      rest = on.rest;
      joined = p.2 ∙ (ap (λ l. p.0 ++ l) on.joined ∙ sym (append_assoc p.0 on.front on.rest));
      of_front = (p.0, on.front, refl, p.3, on.of_front);
      of_rest = on.of_rest;
    }

-- more rules deep
raised_parts : (Of More : ℕ → List Happening → Type 0) → ((rule : ℕ) (hs : List Happening) → Of rule hs → More rule hs)
    → (symbols : List (Symbol Action)) (hs : List Happening) → Parts Of symbols hs → Parts More symbols hs
raised_parts Of More f [] hs p = p
raised_parts Of More f (Symbol.Token class ∷ symbols) hs p = (p.0, p.1, p.2, raised_parts Of More f symbols p.1 p.3)
raised_parts Of More f (Symbol.Act a ∷ symbols) hs p = (p.0, p.1, p.2, raised_parts Of More f symbols p.1 p.3)
raised_parts Of More f (Symbol.Rule rule ∷ symbols) hs p = (p.0, p.1, p.2, f rule p.0 p.3, raised_parts Of More f symbols p.1 p.4)

pub raised : (deep rule : ℕ) (hs : List Happening) → OfRule deep rule hs → OfRule (suc deep) rule hs
raised zero rule hs o = absurd o
raised (suc deep) rule hs o = (o.0, o.1, raised_parts (OfRule deep) (OfRule (suc deep)) (raised deep) o.0.parts hs o.2)

-- the happenings of symbols that lead to the end
abbrev pub Deep : List (Symbol Action) → List Happening → Type 0
Deep symbols hs = (deep : ℕ) × Parts (OfRule deep) symbols hs

by_token : (class atom : ℕ) (symbols : List (Symbol Action)) (events : List (Event Action))
    → ((hs : List Happening) → AreOf events hs → Deep symbols hs)
    → (hs : List Happening) → AreOf (Took atom ∷ events) hs → Deep (Symbol.Token class ∷ symbols) hs
by_token class atom symbols events on [] are = absurd are
by_token class atom symbols events on (Acts place a ∷ hs) are = absurd are
by_token class atom symbols events on (Takes t m ∷ hs) are = let d = on hs are in (d.0, ((t, m), hs, refl, d.1))

by_action : (a : Action) (symbols : List (Symbol Action)) (events : List (Event Action))
    → ((hs : List Happening) → AreOf events hs → Deep symbols hs)
    → (hs : List Happening) → AreOf (Did a ∷ events) hs → Deep (Symbol.Act a ∷ symbols) hs
by_action a symbols events on [] are = absurd are
by_action a symbols events on (Takes t m ∷ hs) are = absurd are
by_action a symbols events on (Acts place b ∷ hs) are = let d = on hs are.1 in (d.0, (place, hs, ap (λ x. Acts place x ∷ hs) are.0, d.1))

by_row : (rule : ℕ) (r : Row Action) (symbols : List (Symbol Action)) (hs : List Happening) → IsOneOf r (grammar.rows_of rule)
    → Deep (r.parts ++ symbols) hs → Deep (Symbol.Rule rule ∷ symbols) hs
by_row rule r symbols hs m d =
    let s = split (OfRule d.0) r.parts symbols hs d.1 in (
      suc d.0,
      (s.front, s.rest, s.joined, (r, m, s.of_front), raised_parts (OfRule d.0) (OfRule (suc d.0)) (raised d.0) symbols s.rest s.of_rest),
    )

at_end : (hs : List Happening) → AreOf [] hs → Deep [] hs
at_end [] are = (zero, refl)
at_end (Acts place a ∷ hs) are = absurd are
at_end (Takes t m ∷ hs) are = absurd are

pub deep : {symbols : List (Symbol Action)} {atoms : List ℕ} {events : List (Event Action)} {left : List (Symbol Action)}
    → Leads grammar symbols atoms events left → left ≡ [] → (hs : List Happening) → AreOf events hs → Deep symbols hs
deep (here {symbols = []}) e hs are = at_end hs are
deep (here {symbols = s ∷ symbols}) e hs are = cc
deep (token {class} {atom} {symbols} {events = events} h l) e hs are = by_token class atom symbols events (λ xs a. deep l e xs a) hs are
deep (action {a} {symbols} {events = events} l) e hs are = by_action a symbols events (λ xs b. deep l e xs b) hs are
deep (row {rule} {r} {symbols} m free l) e hs are = by_row rule r symbols hs m (deep l e hs are)

whole : (n rule : ℕ) (hs : List Happening) → Parts (OfRule n) (Symbol.Rule rule ∷ []) hs → OfRule n rule hs
whole n rule hs p = subst (λ xs. OfRule n rule xs) (sym (p.2 ∙ (ap (λ l. p.0 ++ l) p.4 ∙ append-nil p.0))) p.3

pub read_deep : (rule : ℕ) (hs : List Happening) → IsRead (Symbol.Rule rule) hs → (deep : ℕ) × OfRule deep rule hs
read_deep rule hs is = let d = deep is.is_text refl hs is.are in (d.0, whole d.0 rule hs d.1)
