-- A whole front that begins with a bracket is a routine, and has its effect.
use Rattle.std.proofs.Common.{◌≡◌, ℕ, List, [], ◌∷◌, ◌++◌, true, None, refl, sym, ◌∙◌, ap, subst, arith}
use Rattle.inf_settings.specs.Bounds.{Limits}
use Rattle.inf_scanner.specs.declared.tokens.Mark.{Mark}
use Rattle.inf_machine.specs.{Machine.Taken, Machine.events_of, Machine.taken, declared.symbols.Symbol.Symbol}
use Rattle.inf_machine.specs.Grammar.{Did, Event, IsText, Leads, Took, action, has, token}
use Rattle.inf_machine.proofs.Taking.{leads_only}
use Rattle.inf_syntax.specs.{Atoms.mark_atom, declared.actions.Action.Action}
use Rattle.inf_syntax.specs.declared.parts.names.TheConstants as Part
use Rattle.inf_grammar.specs.{Evaluated.language_is_decided, Language.grammar, Language.known}
use Rattle.inf_unit.specs.Tokens.{SourceToken, atom_of}
use Rattle.inf_compilation.specs.{Actions.Compilation, Actions.piece_begun as work_begun, Context.Context}
use Rattle.inf_reader.specs.Reading.{piece_rule}
use Rattle.inf_laws.specs.KeptTokens.{Kept}
use Rattle.inf_statement_laws.specs.{Laid.next_comes, Laid.passed, Laid.run, Readings.Seen}
use Rattle.inf_language.specs.Texts.{atoms_of, happenings_of}
use Rattle.inf_grammar.proofs.Spaced.{rule_is_spaced}
use Rattle.inf_routine_trees.specs.Routines.{routine_symbols}
use Rattle.inf_routine_trees.proofs.{Effects.given, RoutineTrees.Runs, RoutineTrees.routine_runs}
use Rattle.inf_program.specs.{Turns.grouped, definition.Fronts.Derives, definition.Fronts.Progress, definition.States.context_of}
use Rattle.inf_program.specs.{definition.Steps.Reads, definition.Steps.Step}
use Rattle.inf_turn_laws.specs.{Acted.text_happenings, Directives.taken_seen}
use Rattle.inf_turn_laws.specs.RoutinePieces.{PiecesDoTheirRoutines, effects_by, merged_by, routine_effects, routine_front}
use Rattle.inf_turn_laws.proofs.{Acted.pieces_do_their_actions, Marks.steps_seen}
use Rattle.inf_turn_laws.proofs.Behind.{merged_by_atoms, merged_by_seen, text_given}
use Rattle.inf_turn_laws.proofs.Directives.{Whole, front_taken, later_steps, seen_derives, whole_of}

-- the symbols behind the bracket of a routine
abbrev behind_bracket : List (Symbol Action)
behind_bracket =
    Part.NAME ∷ Part.DIRECTIVE_1 ∷ Part.DO_END_LOCALS ∷ Part.SEMICOLON ∷ Part.DIRECTIVE_2 ∷ Part.DO_END_ROUTINE ∷ Part.CLOSE_BRACKET ∷
    Part.SEMICOLON ∷ []

bracket_taken : taken grammar known (mark_atom Mark.OpenBracket) (Symbol.Rule piece_rule ∷ [])
    ≡ record { actions = Action.Routine ∷ []; left = behind_bracket }
unfolding grammar known
bracket_taken = refl

is_bracket : has (grammar.atoms_of 2) (mark_atom Mark.OpenBracket) ≡ true
unfolding grammar
is_bracket = refl

routine_text : (atom : ℕ) (atoms : List ℕ) (events : List (Event Action)) → atom ≡ mark_atom Mark.OpenBracket
    → IsText grammar (Symbol.Rule piece_rule ∷ []) (atom ∷ atoms) events → IsText grammar routine_symbols (atom ∷ atoms) events
routine_text atom atoms events is text =
    let one = leads_only grammar known language_is_decided text (rule_is_spaced piece_rule) in
    let left : (taken grammar known atom (Symbol.Rule piece_rule ∷ [])).left ≡ behind_bracket =
    ap (λ (a : ℕ). (taken grammar known a (Symbol.Rule piece_rule ∷ [])).left) is ∙ ap (λ (n : Taken Action). n.left) bracket_taken in
    let leads : Leads grammar behind_bracket atoms one.rest [] =
    subst (λ (symbols : List (Symbol Action)). Leads grammar symbols atoms one.rest []) left one.leads in
    let acts : (taken grammar known atom (Symbol.Rule piece_rule ∷ [])).actions ≡ Action.Routine ∷ [] =
    ap (λ (a : ℕ). (taken grammar known a (Symbol.Rule piece_rule ∷ [])).actions) is ∙ ap (λ (n : Taken Action). n.actions) bracket_taken in
    let are : events ≡ Did Action.Routine ∷ Took atom ∷ one.rest =
    one.are ∙ ap (λ (actions : List Action). events_of actions atom ++ one.rest) acts in
    subst (λ (es : List (Event Action)). IsText grammar routine_symbols (atom ∷ atoms) es) (sym are)
    (action (token (ap (λ (a : ℕ). has (grammar.atoms_of 2) a) is ∙ is_bracket) leads))

pub pieces_do_their_routines : (limits : Limits) → PiecesDoTheirRoutines limits
pieces_do_their_routines limits o s f none empty is few =
    let p : Whole limits o s f = whole_of limits o s f none empty in
    let c : Context = context_of o s in
    let t : SourceToken = f.begins.token in
    let later : List Step = later_steps f in
    let w : Compilation = work_begun (passed f.begins.effect s.work) in
    let seen : List Seen = taken_seen f in
    let merged : List Seen = routine_front f in
    let d : Derives (Symbol.Rule piece_rule ∷ []) (atoms_of seen) f.course [] = seen_derives t later f.course p.kept p.derives in
    let atoms : atoms_of merged ≡ atoms_of seen = merged_by_atoms f.course.ends seen in
    let text : IsText grammar routine_symbols (atoms_of merged) f.course.events =
    subst (λ (xs : List ℕ). IsText grammar routine_symbols xs f.course.events) (sym atoms)
    (routine_text (atom_of t) (atoms_of (grouped later).seen) f.course.events is d.leads) in
    let r : Runs limits merged f.course.events =
    routine_runs limits merged f.course.events text (merged_by_seen f.course.ends seen (steps_seen (Reads (Kept t) ∷ later))) few in
    let happen : text_happenings d.leads seen ≡ given (routine_effects f) (happenings_of f.course.events merged) =
    text_given d.leads seen refl None 0 (omega arith)
    ∙ ap (λ (counts : List ℕ). given (effects_by None 0 f.course.events counts seen) (happenings_of f.course.events (merged_by counts seen)))
    d.are_ends in
    record {
      tree = r.tree;
      same = r.same;
      written = r.written;
      does = ap (λ (x : Progress). next_comes x.work) p.does
          ∙ (ap next_comes (front_taken limits c f.begins.effect t later f.course s.work f.begins.is_no_end p.kept p.derives)
          ∙ ((pieces_do_their_actions limits).texts seen f.course.events d.leads c w
          ∙ (ap (λ hs. run limits c hs (next_comes w)) happen ∙ r.runs (routine_effects f) c (next_comes w) refl refl)));
    }
