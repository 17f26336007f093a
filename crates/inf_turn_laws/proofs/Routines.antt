-- Turns through a routine lay it as a whole.
use Rattle.std.proofs.Common.{◌≡◌, List, [], ◌∷◌, true, refl, sym, ◌∙◌, ap, subst}
use Rattle.std.proofs.lemmas.Bool.{and_from, and_parts}
use Rattle.inf_settings.specs.Bounds.{Limits}
use Rattle.inf_scanner.specs.declared.tokens.Mark.{Mark}
use Rattle.inf_machine.specs.{Grammar.Event, Grammar.Leads, Laws.IsSpaced, declared.symbols.Symbol.Symbol}
use Rattle.inf_machine.specs.Machine.{Taken, fits, taken, work}
use Rattle.inf_machine.proofs.Taking.{spaced_left}
use Rattle.inf_syntax.specs.{Atoms.mark_atom, declared.actions.Action.Action}
use Rattle.inf_syntax.specs.declared.parts.names.TheConstants as Part
use Rattle.inf_grammar.specs.{Evaluated.language_is_decided, Language.grammar, Language.known, Routines.closings}
use Rattle.inf_unit.specs.Tokens.{atom_of}
use Rattle.inf_compilation.specs.{Actions.Compilation, Actions.piece_begun as work_begun, Actions.took, Context.Context}
use Rattle.inf_reader.specs.{Acting.all_acted, Reading.piece_rule}
use Rattle.inf_session.specs.Session.{context_of}
use Rattle.inf_laws.specs.KeptTokens.{Kept}
use Rattle.inf_statement_laws.specs.Laid.{next_comes, passed}
use Rattle.inf_statement_laws.specs.Readings.{Seen, all_fit, all_taken, directed, left_behind}
use Rattle.inf_statement_laws.proofs.Reading.{routines_are_read_whole}
use Rattle.inf_language.specs.Texts.{atoms_of}
use Rattle.inf_language.proofs.TextsActed.{texts_do_their_actions}
use Rattle.inf_grammar.proofs.Spaced.{rule_is_spaced}
use Rattle.inf_turn_laws.specs.{Acted.seen_in, Acted.text_happenings, Routines.LaysRoutine, Routines.TurnsReadRoutinesWhole}
use Rattle.inf_program.specs.{Turns.AllFit, Turns.grouped, Turns.piece_first, definition.Steps.Reads}
use Rattle.inf_turn_laws.proofs.{Acted.all_fit_by, Derived.First, Derived.first_by}
use Rattle.inf_program.proofs.{Chosen.EndWithToken, Chosen.none_left, Chosen.pieces_end, Grouping.whole_piece}

-- No symbol is left behind a text that ends with a token.
nothing_left : (seen : List Seen) (symbols : List (Symbol Action)) (events : List (Event Action))
    → Leads grammar symbols (atoms_of seen) events [] → IsSpaced grammar known symbols → EndWithToken symbols → left_behind seen symbols ≡ []
nothing_left [] symbols events leads spaced ends = none_left leads ends
nothing_left (s ∷ seen) symbols events leads spaced ends =
    let f : First symbols (s.atom ∷ atoms_of seen) [] (λ x xs. text_happenings leads (x ∷ xs)) = first_by leads spaced ends in
    let on = f.1 in
    nothing_left seen (taken grammar known s.atom symbols).left on.rest on.leads
    (spaced_left grammar known language_is_decided s.atom (work known s.atom symbols) symbols f.0 spaced) on.ends

bracket_fits : fits grammar known (mark_atom Mark.OpenBracket) (Part.DIRECTIVE ∷ []) ≡ true
unfolding grammar known
bracket_fits = refl

-- tokens behind a first one, by the way in which that is taken
abbrev pub taken_by : Limits → Context → Seen → List Seen → Taken Action → Compilation → Compilation
taken_by limits context s seen n w = all_taken limits context seen n.left (directed limits s.directive (closings n.left)
    (passed s.behind (took context s.token (all_acted limits context s.token.place n.actions w))))

routine_read : (limits : Limits) (context : Context) (bracket : Seen) (seen : List Seen) (events : List (Event Action)) (w : Compilation)
    → bracket.atom ≡ mark_atom Mark.OpenBracket → w.closed ≡ 0
    → Leads grammar (Symbol.Rule piece_rule ∷ []) (atoms_of (bracket ∷ seen)) events []
    → LaysRoutine limits context (bracket ∷ seen) w (all_taken limits context (bracket ∷ seen) (Symbol.Rule piece_rule ∷ []) w)
routine_read limits context bracket seen events w is none text =
    let law = texts_do_their_actions limits in
    let routines = routines_are_read_whole limits in
    let piece : List (Symbol Action) = Symbol.Rule piece_rule ∷ [] in
    let whole : List (Symbol Action) = Part.DIRECTIVE ∷ [] in
    let same : taken grammar known bracket.atom piece ≡ taken grammar known bracket.atom whole =
    subst (λ atom. taken grammar known atom piece ≡ taken grammar known atom whole) (sym is) routines.begin in
    let first : fits grammar known bracket.atom whole ≡ true = ap (λ atom. fits grammar known atom whole) is ∙ bracket_fits in
    let fit = law.fit piece_rule (bracket ∷ seen) events text in
    let parts = and_parts (fits grammar known bracket.atom piece) (all_fit seen (taken grammar known bracket.atom piece).left) fit in
    let left = nothing_left (bracket ∷ seen) piece events text (rule_is_spaced piece_rule) pieces_end in
    let r = routines.are bracket seen is
    (and_from (fits grammar known bracket.atom whole) (all_fit seen (taken grammar known bracket.atom whole).left) first
    (sym (ap (λ (n : Taken Action). all_fit seen n.left) same) ∙ parts.1))
    (sym (ap (λ (n : Taken Action). left_behind seen n.left) same) ∙ left) in
    record {
      routine = r.0;
      same = r.1.same;
      lays = ap (λ (n : Taken Action). next_comes (taken_by limits context bracket seen n w)) same ∙ r.1.lay context w none;
    }

pub turns_read_routines_whole : (limits : Limits) → TurnsReadRoutinesWhole limits
turns_read_routines_whole limits sources o n s m t steps events fresh is_no_end quiet all kept text is =
    let context = context_of o s in
    let law = texts_do_their_actions limits in
    let first = work_begun (passed m s.work) in
    let g = grouped steps in
    let bracket : Seen = record { token = t; atom = atom_of t; behind = g.behind; directive = g.directive } in
    let fit : AllFit limits context (Reads (Kept t) ∷ steps) (piece_first m s.work) =
    all_fit_by limits context (Reads (Kept t) ∷ steps) (piece_first m s.work) refl kept
    (law.fit piece_rule (seen_in t steps) events text) in
    subst (λ (v : Compilation). LaysRoutine limits context (seen_in t steps) first v)
    (sym (whole_piece limits sources o n s m t steps fresh is_no_end quiet all fit))
    (routine_read limits context bracket g.seen events first is refl text)
