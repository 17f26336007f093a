-- The kept tokens of a whole front are a text, and the state behind the front has the effect of taking them.
use Rattle.std.proofs.Common.{◌≡◌, ℕ, zero, suc, List, [], ◌∷◌, ◌++◌, false, refl, sym, ◌∙◌, ap, subst, append-nil}
use Rattle.inf_settings.specs.Bounds.{Limits}
use Rattle.inf_machine.specs.{Grammar.IsText, Grammar.Leads, declared.symbols.Symbol.Symbol}
use Rattle.inf_syntax.specs.declared.actions.Action.{Action}
use Rattle.inf_grammar.specs.Language.{grammar}
use Rattle.inf_unit.specs.Tokens.{SourceToken, atom_of, is_end}
use Rattle.inf_compilation.specs.{Actions.Compilation, Actions.piece_begun as work_begun, Context.Context, Nesting.closed_ahead}
use Rattle.inf_reader.specs.{Reading.ReaderState, Reading.between, Reading.piece_rule, declared.recovery.Recovery.Recovery}
use Rattle.inf_session.specs.Choices.{Choices}
use Rattle.inf_laws.specs.KeptTokens.{Kept, Unfit}
use Rattle.inf_statement_laws.specs.{Happenings.Between, Laid.passed, Readings.all_taken}
use Rattle.inf_language.specs.{Constants.piece_done, Texts.atoms_of}
use Rattle.inf_language.proofs.TextsActed.{texts_do_their_actions}
use Rattle.inf_grammar.proofs.Spaced.{rule_is_spaced}
use Rattle.inf_trees.specs.Directives.{IsDirective, begins_directive}
use Rattle.inf_trees.proofs.DirectivesRead.{directives_are_trees}
use Rattle.inf_program.specs.Turns.{AllFit, grouped, piece_first, steps_by}
use Rattle.inf_program.specs.definition.Fronts.{AllGoOn, Course, Derives, Front, PieceState, Progress, atoms_from, begun_piece, done_by}
use Rattle.inf_program.specs.definition.Fronts.{fresh_progress, kept_atoms, moved, progress_of, reached, taken_by, walked}
use Rattle.inf_program.specs.definition.NextToken.{at_front, steps_at, within}
use Rattle.inf_program.specs.definition.States.{State, context_of}
use Rattle.inf_program.specs.definition.Steps.{AllKept, Ends, Passes, Reads, Step}
use Rattle.inf_program.proofs.{Events.Agrees, Forward.atoms_joined, Grouping.steps_are_taken, Stepping.stand}
use Rattle.inf_program.proofs.Walking.{first_step, front_agrees}
use Rattle.inf_turn_laws.specs.Acted.{seen_in}
use Rattle.inf_turn_laws.specs.Directives.{PiecesDoTheirDirectives, all_merged, front_seen, steps_from, taken_seen}
use Rattle.inf_turn_laws.proofs.{Acted.all_fit_by, Marks.steps_seen, Unclosed.directives_close_none}
use Rattle.inf_turn_laws.proofs.Merged.{ClosesNone, merged_atoms, merged_seen, none_merged, taken_merged}

-- Lemmas about the steps of a front

done_joined : (limits : Limits) (context : Context) (a b : List Step) (p : Progress)
    → done_by limits context (a ++ b) p ≡ done_by limits context b (done_by limits context a p)
done_joined limits context [] b p = refl
done_joined limits context (Reads (Kept t) ∷ a) b p = done_joined limits context a b (taken_by limits context t p)
done_joined limits context (Reads (Unfit t) ∷ a) b p = done_joined limits context a b p
done_joined limits context (Passes m ∷ a) b p = done_joined limits context a b (record p { work = passed m p.work })
done_joined limits context (Ends m ∷ a) b p =
    done_joined limits context a b (record p { work = passed m (closed_ahead limits p.over p.work) })

kept_joined : (a b : List Step) → AllKept a → AllKept b → AllKept (a ++ b)
kept_joined [] b first second = second
kept_joined (Reads (Kept t) ∷ a) b first second = kept_joined a b first second
kept_joined (Reads (Unfit t) ∷ a) b first second = absurd first
kept_joined (Passes m ∷ a) b first second = kept_joined a b first second
kept_joined (Ends m ∷ a) b first second = kept_joined a b first second

-- the steps of `n` tokens within a piece
walked_done : (limits : Limits) (o : Choices) (n : ℕ) (m : PieceState)
    → progress_of (walked limits o n m) ≡ done_by limits (context_of o m.state) (steps_from limits o n m) (progress_of m)
walked_done limits o zero m = refl
walked_done limits o (suc n) m = walked_done limits o n (moved limits o m)
    ∙ sym (done_joined limits (context_of o m.state) (steps_at limits o within m.state) (steps_from limits o n (moved limits o m))
    (progress_of m))

walked_kept : (limits : Limits) (o : Choices) (left : List (Symbol Action)) (n : ℕ) (m : PieceState) → AllGoOn limits o left n m
    → AllKept (steps_from limits o n m)
walked_kept limits o left zero m all = tt
walked_kept limits o left (suc n) m all =
    kept_joined (steps_at limits o within m.state) (steps_from limits o n (moved limits o m)) all.0.are_kept
    (walked_kept limits o left n (moved limits o m) all.1)

walked_atoms : (limits : Limits) (o : Choices) (n : ℕ) (m : PieceState) (further : List ℕ)
    → atoms_from limits o n m further ≡ kept_atoms (steps_from limits o n m) ++ further
walked_atoms limits o zero m further = refl
walked_atoms limits o (suc n) m further =
    ap (λ (xs : List ℕ). kept_atoms (steps_at limits o within m.state) ++ xs) (walked_atoms limits o n (moved limits o m) further)
    ∙ sym (atoms_joined (steps_at limits o within m.state) (steps_from limits o n (moved limits o m)) further)

-- Lemmas about the text of a front

grouped_atoms : (steps : List Step) → AllKept steps → atoms_of (grouped steps).seen ≡ kept_atoms steps
grouped_atoms [] kept = refl
grouped_atoms (Reads (Kept t) ∷ steps) kept = ap (λ (xs : List ℕ). atom_of t ∷ xs) (grouped_atoms steps kept)
grouped_atoms (Reads (Unfit t) ∷ steps) kept = absurd kept
grouped_atoms (Passes m ∷ steps) kept = grouped_atoms steps kept
grouped_atoms (Ends m ∷ steps) kept = grouped_atoms steps kept

-- the steps behind the first token of a front
abbrev pub later_steps : {limits : Limits} {o : Choices} {s : State} → Front limits o s → List Step
later_steps {limits} {o} {s} f = f.begins.rest ++ steps_from limits o f.more (begun_piece limits o f.course s)

-- all steps of a front
pub record Whole (limits : Limits) (o : Choices) (s : State) (f : Front limits o s) : Type 0 where
  pub kept : AllKept (later_steps f)
  pub derives : Derives (Symbol.Rule piece_rule ∷ []) (kept_atoms (Reads (Kept f.begins.token) ∷ later_steps f) ++ []) f.course []
  pub does : progress_of (reached f)
      ≡ done_by limits (context_of o s) (Passes f.begins.effect ∷ Reads (Kept f.begins.token) ∷ later_steps f)
      (fresh_progress f.course s.work)

pub whole_of : (limits : Limits) (o : Choices) (s : State) (f : Front limits o s) → f.further ≡ [] → f.left ≡ [] → Whole limits o s f
whole_of limits o s f none empty =
    let c : Context = context_of o s in
    let first : List Step = steps_at limits o at_front s in
    let m : PieceState = begun_piece limits o f.course s in
    let rest : List Step = steps_from limits o f.more m in
    let start : Progress = fresh_progress f.course s.work in
    let same : first ++ rest ≡ Passes f.begins.effect ∷ Reads (Kept f.begins.token) ∷ (f.begins.rest ++ rest) =
    ap (λ (xs : List Step). xs ++ rest) f.begins.steps in
    let atoms : kept_atoms first ++ atoms_from limits o f.more m f.further ≡ kept_atoms (first ++ rest) ++ [] =
    ap (λ (xs : List ℕ). kept_atoms first ++ xs) (walked_atoms limits o f.more m f.further)
    ∙ (ap (λ (xs : List ℕ). kept_atoms first ++ (kept_atoms rest ++ xs)) none ∙ sym (atoms_joined first rest [])) in
    record {
      kept = subst (λ (xs : List Step). AllKept xs) same (kept_joined first rest f.are_kept (walked_kept limits o f.left f.more m f.go_on));
      derives = subst (λ (xs : List Step). Derives (Symbol.Rule piece_rule ∷ []) (kept_atoms xs ++ []) f.course []) same
          (subst (λ (xs : List ℕ). Derives (Symbol.Rule piece_rule ∷ []) xs f.course []) atoms
          (subst (λ (left : List (Symbol Action)). Derives (Symbol.Rule piece_rule ∷ [])
          (kept_atoms first ++ atoms_from limits o f.more m f.further) f.course left) empty f.derives));
      does = walked_done limits o f.more m
          ∙ (sym (done_joined limits c first rest start) ∙ ap (λ (xs : List Step). done_by limits c xs start) same);
    }

-- the text of the tokens, each with the effect behind it
pub seen_derives : (t : SourceToken) (steps : List Step) (course : Course) → AllKept steps
    → Derives (Symbol.Rule piece_rule ∷ []) (kept_atoms (Reads (Kept t) ∷ steps) ++ []) course []
    → Derives (Symbol.Rule piece_rule ∷ []) (atoms_of (seen_in t steps)) course []
seen_derives t steps course kept d =
    let atoms : kept_atoms (Reads (Kept t) ∷ steps) ++ [] ≡ atoms_of (seen_in t steps) =
    append-nil (kept_atoms (Reads (Kept t) ∷ steps)) ∙ sym (grouped_atoms (Reads (Kept t) ∷ steps) kept) in
    subst (λ (xs : List ℕ). Derives (Symbol.Rule piece_rule ∷ []) xs course []) atoms d

text_of : (t : SourceToken) (steps : List Step) (course : Course) → AllKept steps
    → Derives (Symbol.Rule piece_rule ∷ []) (kept_atoms (Reads (Kept t) ∷ steps) ++ []) course []
    → IsText grammar (Symbol.Rule piece_rule ∷ []) (atoms_of (all_merged (seen_in t steps))) course.events
text_of t steps course kept d =
    subst (λ (xs : List ℕ). Leads grammar (Symbol.Rule piece_rule ∷ []) xs course.events []) (sym (merged_atoms (seen_in t steps)))
    (seen_derives t steps course kept d).leads

-- taking the tokens has the effect of the front
pub front_taken : (limits : Limits) (context : Context) (m : Between) (t : SourceToken) (steps : List Step) (course : Course) (w : Compilation)
    → is_end t.kind ≡ false → AllKept steps → Derives (Symbol.Rule piece_rule ∷ []) (kept_atoms (Reads (Kept t) ∷ steps) ++ []) course []
    → (done_by limits context (Passes m ∷ Reads (Kept t) ∷ steps) (fresh_progress course w)).work
    ≡ all_taken limits context (seen_in t steps) (Symbol.Rule piece_rule ∷ []) (work_begun (passed m w))
front_taken limits context m t steps course w no_end kept d =
    let a : Agrees [] [] (done_by limits context (Passes m ∷ Reads (Kept t) ∷ steps) (fresh_progress course w))
    (steps_by limits context (Passes m ∷ Reads (Kept t) ∷ steps) (stand (between Recovery.Reads) w)) =
    front_agrees limits context m t steps [] [] course w no_end kept d in
    let fit : AllFit limits context (Reads (Kept t) ∷ steps) (piece_first m w) =
    all_fit_by limits context (Reads (Kept t) ∷ steps) (piece_first m w) refl kept
    ((texts_do_their_actions limits).fit piece_rule (seen_in t steps) course.events (seen_derives t steps course kept d).leads) in
    sym a.same
    ∙ (ap (λ (x : ReaderState). (steps_by limits context steps x).work) (first_step limits context t m w no_end)
    ∙ steps_are_taken limits context (Reads (Kept t) ∷ steps) (piece_first m w) fit)

-- with all effects behind the tokens, where no statement is over
front_takes : (limits : Limits) (context : Context) (m : Between) (t : SourceToken) (steps : List Step) (course : Course) (w : Compilation)
    → is_end t.kind ≡ false → AllKept steps → Derives (Symbol.Rule piece_rule ∷ []) (kept_atoms (Reads (Kept t) ∷ steps) ++ []) course []
    → ClosesNone course.ends (seen_in t steps)
    → (done_by limits context (Passes m ∷ Reads (Kept t) ∷ steps) (fresh_progress course w)).work
    ≡ all_taken limits context (all_merged (seen_in t steps)) (Symbol.Rule piece_rule ∷ []) (work_begun (passed m w))
front_takes limits context m t steps course w no_end kept d closes = front_taken limits context m t steps course w no_end kept d
    ∙ taken_merged limits context (seen_in t steps) (Symbol.Rule piece_rule ∷ []) [] course (seen_derives t steps course kept d)
    (rule_is_spaced piece_rule) closes (work_begun (passed m w))

pub pieces_do_their_directives : (limits : Limits) → PiecesDoTheirDirectives limits
pieces_do_their_directives limits o s f none empty begins few =
    let p : Whole limits o s f = whole_of limits o s f none empty in
    let c : Context = context_of o s in
    let t : SourceToken = f.begins.token in
    let later : List Step = later_steps f in
    let is : IsDirective limits (front_seen f) =
    directives_are_trees limits (front_seen f) f.course.events (text_of t later f.course p.kept p.derives) begins
    (merged_seen (taken_seen f) (steps_seen (Reads (Kept t) ∷ later))) few (none_merged (taken_seen f)) in
    let d : Derives (Symbol.Rule piece_rule ∷ []) (atoms_of (taken_seen f)) f.course [] = seen_derives t later f.course p.kept p.derives in
    let closes : ClosesNone f.course.ends (taken_seen f) =
    directives_close_none (atoms_of (taken_seen f)) f.course.events f.course.ends (taken_seen f)
    (ap begins_directive (sym (merged_atoms (taken_seen f))) ∙ begins) d.leads d.are_ends in
    record {
      tree = is.tree;
      same = is.same;
      written = is.written;
      does = ap (λ (x : Progress). piece_done x.work) p.does
          ∙ (ap piece_done (front_takes limits c f.begins.effect t later f.course s.work f.begins.is_no_end p.kept p.derives closes)
          ∙ is.does c (passed f.begins.effect s.work));
    }
