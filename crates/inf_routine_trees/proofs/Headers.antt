-- The header of a routine is a tree: its name and the names of its locals.
use Rattle.std.proofs.Common.{◌≡◌, ℕ, zero, suc, ◌≤◌, List, [], ◌∷◌, length, None, refl, sym, ◌∙◌, ap, arith}
use Rattle.inf_scanner.specs.declared.tokens.Place.{Place}
use Rattle.inf_settings.specs.Bounds.{Limits}
use Rattle.inf_machine.specs.Grammar.{Event, IsText}
use Rattle.inf_syntax.specs.declared.actions.Action.{Action}
use Rattle.inf_syntax.specs.declared.parts.names.TheConstants as Part
use Rattle.inf_grammar.specs.Language.{grammar}
use Rattle.inf_unit.specs.{Units.Unit as UnitAtHand, Units.noted, Units.taken, declared.roles.Note.Note}
use Rattle.inf_compilation.specs.{Actions.Compilation, Context.Context}
use Rattle.inf_statement_laws.specs.{Laid.passed, Laid.run, Readings.Seen}
use Rattle.inf_statement_laws.proofs.Rules.{header_parts as header_symbols, number}
use Rattle.inf_language.specs.Texts.{atoms_of, happenings_before}
use Rattle.inf_trees.specs.Trees.{Part, Single, parts_told, told_at, with_parts}
use Rattle.inf_trees.proofs.{RuleRows.by_rows, Symbols.act_first, Symbols.nothing_left, Symbols.token_first, UnitsRead.note_first}
use Rattle.inf_trees.proofs.{UnitsRead.one_taken, UnitsRead.told_at_opening}
use Rattle.inf_routine_trees.specs.Routines.{local_parts}

-- the names of locals are read, behind any unit
record Locals (limits : Limits) (seen : List Seen) (events : List (Event Action)) : Type 0 where
  runs : (context : Context) (next : Place) (u : UnitAtHand) (w : Compilation) → w.opening ≡ None
      → run limits context (happenings_before next events seen) (record w { unit = u })
      ≡ record (parts_told context u (local_parts seen) w) { unit = with_parts (local_parts seen) u }

no_locals : (limits : Limits) (seen : List Seen) (events : List (Event Action)) → IsText grammar [] (atoms_of seen) events
    → Locals limits seen events
no_locals limits seen events text =
    let n = nothing_left seen events text in
    record {
      runs = λ context next u w none. ap (λ hs. run limits context hs (record w { unit = u })) (n.happen next)
          ∙ ap (λ l. record (parts_told context u (local_parts l) w) { unit = with_parts (local_parts l) u }) (sym n.none);
    }

local_by : (limits : Limits) (n : ℕ)
    → ((seen : List Seen) (events : List (Event Action)) → IsText grammar (Part.DIRECTIVE_1 ∷ []) (atoms_of seen) events → length seen ≤ n
    → Locals limits seen events)
    → (seen : List Seen) (events : List (Event Action)) → IsText grammar (Part.NAME ∷ Part.DO_LOCAL ∷ Part.DIRECTIVE_1 ∷
    []) (atoms_of seen) events
    → length seen ≤ suc n → Locals limits seen events
local_by limits n others seen events text few =
    let t = token_first (Part.DO_LOCAL ∷ Part.DIRECTIVE_1 ∷ []) seen events text in
    let a = act_first Action.Local (Part.DIRECTIVE_1 ∷ []) t.rest t.late t.text in
    let count : suc (length t.rest) ≡ length seen = ap length t.same in
    let on = others t.rest a.late a.text (omega (arith, few, count)) in
    record {
      runs = λ context next u w none.
          let v = taken t.s.token u in
          let told = passed t.s.behind (told_at context v t.s.token w) in
          ap (λ hs. run limits context hs (record w { unit = u })) (t.happen next)
          ∙ (ap (run limits context (happenings_before next t.late t.rest)) (one_taken context t.s u w none)
          ∙ (ap (λ es. run limits context (happenings_before next es t.rest) (record told { unit = v })) a.are
          ∙ (note_first limits context next Action.Local t.rest a.late (record told { unit = v })
          (record told { unit = noted Note.Local v }) (λ place. refl)
          ∙ (on.runs context next (noted Note.Local v) told (told_at_opening context v t.s.token w ∙ none)
          ∙ ap (λ l. record (parts_told context u (local_parts l) w) { unit = with_parts (local_parts l) u }) t.same))));
    }

locals_read : (limits : Limits) (n : ℕ) (seen : List Seen) (events : List (Event Action))
    → IsText grammar (Part.DIRECTIVE_1 ∷ []) (atoms_of seen) events → length seen ≤ n → Locals limits seen events
unfolding grammar
locals_read limits zero seen events text few =
    by_rows (Locals limits seen events) (number Part.DIRECTIVE_1) ((λ t. no_more t), ((λ t. no_locals limits seen events t), tt)) text
  where
    none : 1 ≤ 0 → ⊥
    none e = omega (arith, e)

    no_more : IsText grammar (Part.NAME ∷ Part.DO_LOCAL ∷ Part.DIRECTIVE_1 ∷ []) (atoms_of seen) events → Locals limits seen events
    no_more t =
        let f = token_first (Part.DO_LOCAL ∷ Part.DIRECTIVE_1 ∷ []) seen events t in
        let count : suc (length f.rest) ≡ length seen = ap length f.same in
        absurd (none (omega (arith, few, count)))
locals_read limits (suc n) seen events text few = by_rows (Locals limits seen events) (number Part.DIRECTIVE_1)
    ((λ t. local_by limits n (locals_read limits n) seen events t few), ((λ t. no_locals limits seen events t), tt)) text

-- A header before its end
pub record HeaderText (limits : Limits) (seen : List Seen) (events : List (Event Action)) : Type 0 where
  pub bracket : Seen
  pub name : Seen
  pub locals : List Seen
  pub same : bracket ∷ name ∷ locals ≡ seen
  pub runs : (context : Context) (next : Place) (w : Compilation) → w.opening ≡ None
      → let parts : List Part = Single bracket ∷ Single name ∷ local_parts locals in
      run limits context (happenings_before next events seen) w
      ≡ record (parts_told context w.unit parts w) { unit = with_parts parts w.unit }

pub header_text : (limits : Limits) (seen : List Seen) (events : List (Event Action)) → IsText grammar header_symbols (atoms_of seen) events
    → HeaderText limits seen events
header_text limits seen events text =
    let r = act_first Action.Routine (Part.OPEN_BRACKET ∷ Part.NAME ∷ Part.DIRECTIVE_1 ∷ []) seen events text in
    let b = token_first (Part.NAME ∷ Part.DIRECTIVE_1 ∷ []) seen r.late r.text in
    let n = token_first (Part.DIRECTIVE_1 ∷ []) b.rest b.late b.text in
    let l = locals_read limits (length n.rest) n.rest n.late n.text (omega arith) in
    record {
      bracket = b.s;
      name = n.s;
      locals = n.rest;
      same = ap (λ x. b.s ∷ x) n.same ∙ b.same;
      runs = λ context next w none.
          let u1 = taken b.s.token w.unit in
          let w1 = passed b.s.behind (told_at context u1 b.s.token w) in
          let u2 = taken n.s.token u1 in
          let w2 = passed n.s.behind (told_at context u2 n.s.token w1) in
          let none1 : w1.opening ≡ None = told_at_opening context u1 b.s.token w ∙ none in
          let none2 : w2.opening ≡ None = told_at_opening context u2 n.s.token w1 ∙ none1 in
          ap (λ es. run limits context (happenings_before next es seen) w) r.are
          ∙ (note_first limits context next Action.Routine seen r.late w w (λ place. refl)
          ∙ (ap (λ hs. run limits context hs w) (b.happen next)
          ∙ (ap (run limits context (happenings_before next b.late b.rest)) (one_taken context b.s w.unit w none)
          ∙ (ap (λ hs. run limits context hs (record w1 { unit = u1 })) (n.happen next)
          ∙ (ap (run limits context (happenings_before next n.late n.rest)) (one_taken context n.s u1 w1 none1)
          ∙ l.runs context next u2 w2 none2)))));
    }
