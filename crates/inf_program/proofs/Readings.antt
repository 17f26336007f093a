-- Regular readings are programs: by the number of turns up to the end.
use Rattle.std.proofs.Common.{◌≡◌, ℕ, zero, suc, List, [], ◌∷◌, Bool, true, false, refl, sym, ◌∙◌, ap, subst}
use Rattle.inf_settings.specs.Bounds.{Limits}
use Rattle.inf_scanner.specs.{declared.tokens.Mark.Mark, declared.tokens.TokenKind.TokenKind}
use Rattle.inf_devices.specs.Files.{Sources}
use Rattle.inf_unit.specs.Tokens.{SourceToken, is_end}
use Rattle.inf_compilation.specs.Context.{Context}
use Rattle.inf_reader.specs.{Reading.between, declared.recovery.Recovery.Recovery}
use Rattle.inf_session.specs.Choices.{Choices}
use Rattle.inf_laws.specs.KeptTokens.{Given, Kept, Unfit, token_in}
use Rattle.inf_laws.proofs.KeptTokens.{no_token}
use Rattle.inf_statement_laws.specs.Happenings.{Between}
use Rattle.inf_program.specs.{Programs.EndsAs, Readings.RegularReadingsArePrograms, Regular.AreRegular, SideTurns.side_run}
use Rattle.inf_program.specs.{SideTurns.side_turned, SideTurns.stepped, Turns.AllFit, definition.BadPieces.IsNoEnd}
use Rattle.inf_program.specs.{definition.NextToken.afresh, definition.NextToken.at_front, definition.NextToken.steps_at}
use Rattle.inf_program.specs.definition.Steps.{AllKept, Passes, Reads, Step}
use Rattle.inf_program.specs.definition.Program.{Conditional, Continues, FileEnd, FileEnds, IsOver, NoneGiven}
use Rattle.inf_program.specs.definition.States.{State, context_of, followed, has_ended}
use Rattle.inf_program.proofs.{Given.shape_at, Nexts.conditional_is, Nexts.file_end_is, Programs.same_end, Programs.turns_do_programs}
use Rattle.inf_program.proofs.FrontTurns.{FirstFit, alone_bad, first_bad, not_over, piece_start}
use Rattle.inf_program.proofs.Shapes.{CutFirst, CutSecond, Fit, NoToken, OneToken, Shape, Sorted, TwoTokens, sorted}
use Rattle.inf_program.proofs.Soundness.{All, HasProgram, Main, Regular, Search, Skip, bad_on, behind_end, ended_on, followed_reads}
use Rattle.inf_program.proofs.Soundness.{never_ends, open_on, quiet_within, run_on, search_by, skip_all, skip_more}

-- Lemmas about the first turn

-- The first token that is handed on is no end of a file.
abbrev FirstIsNoEnd : List Step → Type 0
FirstIsNoEnd (Passes m ∷ Reads given ∷ steps) = IsNoEnd given
FirstIsNoEnd _ = Unit {0}

-- what is known of a state between two pieces, and of the turn behind it
record Begun (limits : Limits) (sources : Sources) (o : Choices) (k : ℕ) (s : State) : Type 0 where
  is_fresh : s.reading ≡ between Recovery.Reads
  is_going : has_ended s ≡ false
  next : Regular limits sources o k (stepped limits o s)

-- the tokens of the first turn fit
fit_on : (limits : Limits) (sources : Sources) (o : Choices) (k : ℕ) → Search limits sources o k → (s : State) → Begun limits sources o k s
    → (m : Between) (given : Given) (rest : List Step) → steps_at limits o at_front s ≡ Passes m ∷ Reads given ∷ rest → IsNoEnd given
    → AllFit limits (context_of o s) (steps_at limits o at_front s) (piece_start s) → AllKept (steps_at limits o at_front s)
    → HasProgram limits sources o s
fit_on limits sources o k search s g m (Unfit t) rest steps no_end fit kept = absurd (subst (λ (xs : List Step). AllKept xs) steps kept)
fit_on limits sources o k search s g m (Kept t) rest steps no_end fit kept =
    let first : FirstFit limits o s = record {
      begins = record { effect = m; token = t; rest = rest; steps = steps; is_no_end = no_end };
      is_fresh = g.is_fresh;
      is_going = g.is_going;
      are_fit = fit;
    } in
    search s zero first tt g.next

-- the first turn hands on a token that may begin a piece
sort_on : (limits : Limits) (sources : Sources) (o : Choices) (k : ℕ) → Skip limits sources o k → Search limits sources o k → (s : State)
    → Begun limits sources o k s → (m : Between) (given : Given) (rest : List Step)
    → steps_at limits o at_front s ≡ Passes m ∷ Reads given ∷ rest → IsNoEnd given
    → Sorted limits (context_of o s) (steps_at limits o at_front s) (piece_start s) → HasProgram limits sources o s
sort_on limits sources o k skip search s g m given rest steps no_end (Fit fit kept) =
    fit_on limits sources o k search s g m given rest steps no_end fit kept
sort_on limits sources o k skip search s g m given rest steps no_end (CutFirst n bad after steps2 out skipped) =
    bad_on limits sources o k skip s (stepped limits o s) g.is_fresh g.is_going
    (alone_bad limits sources o s n bad after g.is_fresh steps2
    (subst (λ (xs : List Step). FirstIsNoEnd xs) (sym steps ∙ steps2) no_end) out skipped)
    g.next
sort_on limits sources o k skip search s g m given rest steps no_end (CutSecond n h bad after steps2 fit more out skipped) =
    bad_on limits sources o k skip s (stepped limits o s) g.is_fresh g.is_going
    (first_bad limits sources o s n h bad after g.is_fresh steps2
    (subst (λ (xs : List Step). FirstIsNoEnd xs) (sym steps ∙ steps2) no_end) (fit, tt) more out skipped)
    g.next

-- conditionals take the token
pass_on : (limits : Limits) (sources : Sources) (o : Choices) (k : ℕ) → Main limits sources o k → (s : State) → Begun limits sources o k s
    → NoneGiven (steps_at limits o at_front s) → HasProgram limits sources o s
pass_on limits sources o k main s g free =
    let x : State = stepped limits o s in
    let same = conditional_is limits sources o s g.is_fresh free in
    let reading : x.reading ≡ between Recovery.Reads = ap (λ (y : State). y.reading) same ∙ g.is_fresh in
    let p : HasProgram limits sources o (followed sources o x) =
    main (followed sources o x) (followed_reads sources o x reading) g.next.turns g.next.ends in
    (p.0, Continues g.is_going g.is_fresh (Conditional free (ap (followed sources o) same)) p.1)

-- the file ends
end_on : (limits : Limits) (sources : Sources) (o : Choices) (k : ℕ) → Main limits sources o k → (s : State) → Begun limits sources o k s
    → FileEnds limits o s → HasProgram limits sources o s
end_on limits sources o k main s g e =
    let x : State = stepped limits o s in
    let same = file_end_is limits sources o s g.is_fresh e in
    let reading : x.reading ≡ between Recovery.Ended = ap (λ (y : State). y.reading) same in
    let p : HasProgram limits sources o (followed sources o x) =
    behind_end limits sources o k main x (ended_on sources o x reading x.work.report.counts.is_over refl) g.next in
    (p.0, Continues g.is_going g.is_fresh (FileEnd e (ap (followed sources o) same)) p.1)

-- one token comes, which is the end of the file or not
one_on : (limits : Limits) (sources : Sources) (o : Choices) (k : ℕ) → All limits sources o k → (s : State) → Begun limits sources o k s
    → (m : Between) (t : SourceToken) (rest : List Step) → steps_at limits o at_front s ≡ Passes m ∷ Reads (Kept t) ∷ rest
    → NoneGiven rest → Sorted limits (context_of o s) (steps_at limits o at_front s) (piece_start s) → (b : Bool) → is_end t.kind ≡ b
    → HasProgram limits sources o s
one_on limits sources o k all s g m t rest steps free sort true is_the_end = end_on limits sources o k all.main s g
    (record { effect = m; token = t; rest = rest; steps = steps; is_the_end = is_the_end; is_last = free })
one_on limits sources o k all s g m t rest steps free sort false no_end =
    sort_on limits sources o k all.skip all.search s g m (Kept t) rest steps no_end sort

hash_no_end : (given : Given) → (token_in given).kind ≡ TokenKind.Mark Mark.Hash → IsNoEnd given
hash_no_end (Kept t) is_hash = ap is_end is_hash
hash_no_end (Unfit t) is_hash = tt

begun_on : (limits : Limits) (sources : Sources) (o : Choices) (k : ℕ) → All limits sources o k → (s : State) → Begun limits sources o k s
    → Sorted limits (context_of o s) (steps_at limits o at_front s) (piece_start s) → Shape (steps_at limits o at_front s)
    → HasProgram limits sources o s
begun_on limits sources o k all s g sort (NoToken free) = pass_on limits sources o k all.main s g free
begun_on limits sources o k all s g sort (OneToken m (Kept t) rest steps free) =
    one_on limits sources o k all s g m t rest steps free sort (is_end t.kind) refl
begun_on limits sources o k all s g sort (OneToken m (Unfit t) rest steps free) =
    sort_on limits sources o k all.skip all.search s g m (Unfit t) rest steps tt sort
begun_on limits sources o k all s g sort (TwoTokens m given next rest steps is_hash free) =
    sort_on limits sources o k all.skip all.search s g m given (Reads next ∷ rest) steps (hash_no_end given is_hash) sort

-- Lemmas by the number of turns

main_more : (limits : Limits) (sources : Sources) (o : Choices) (k : ℕ) → All limits sources o k → (s : State)
    → s.reading ≡ between Recovery.Reads → AreRegular limits sources o (suc k) s → has_ended (side_run limits sources o (suc k) s) ≡ true
    → (b : Bool) → has_ended s ≡ b → HasProgram limits sources o s
main_more limits sources o k all s fresh regular ends true over = (s, IsOver over refl)
main_more limits sources o k all s fresh regular ends false going =
    let c : Context = context_of o s in
    let steps : List Step = steps_at limits o at_front s in
    let shape : Shape steps = shape_at limits o at_front s in
    begun_on limits sources o k all s (record {
      is_fresh = fresh;
      is_going = going;
      next = record {
        is_going = not_over s going;
        asks = (regular going).0.asks_at_ends;
        turns = (regular going).1;
        ends = run_on limits sources o k s going ends;
      };
    }) (sorted limits c steps (piece_start s) [] shape no_token refl) shape

main_zero : (limits : Limits) (sources : Sources) (o : Choices) → Main limits sources o zero
main_zero limits sources o s fresh regular ends = (s, IsOver ends refl)

none_with : (limits : Limits) (sources : Sources) (o : Choices) → Main limits sources o zero → All limits sources o zero
none_with limits sources o main = record {
  main = main;
  skip = λ from x same r. skip_all limits sources o zero main
      (λ from2 y same2 skips2 quiet r2. absurd (never_ends limits sources o y quiet r2)) from x same r x.work.report.counts.is_over refl;
  search = λ s i first all r. search_by limits sources o zero main s i first all
      (λ tokens at some over. absurd (never_ends limits sources o (stepped limits o (side_turned limits sources o i s))
      (quiet_within (stepped limits o (side_turned limits sources o i s)) at.reads some over r.asks) r)) r
      (stepped limits o (side_turned limits sources o i s)).work.report.counts.is_over refl
      (stepped limits o (side_turned limits sources o i s)).reading.stack refl;
}

more_with : (limits : Limits) (sources : Sources) (o : Choices) (k : ℕ) → All limits sources o k → Main limits sources o (suc k)
    → All limits sources o (suc k)
more_with limits sources o k before main = record {
  main = main;
  skip = λ from x same r. skip_all limits sources o (suc k) main (skip_more limits sources o k before.skip) from x same r
      x.work.report.counts.is_over refl;
  search = λ s i first all r. search_by limits sources o (suc k) main s i first all
      (λ tokens at some over. open_on limits sources o k before.skip before.search s i first all tokens at some over r) r
      (stepped limits o (side_turned limits sources o i s)).work.report.counts.is_over refl
      (stepped limits o (side_turned limits sources o i s)).reading.stack refl;
}

all_of : (limits : Limits) (sources : Sources) (o : Choices) (k : ℕ) → All limits sources o k
all_of limits sources o zero = none_with limits sources o (main_zero limits sources o)
all_of limits sources o (suc k) =
    let before : All limits sources o k = all_of limits sources o k in
    more_with limits sources o k before
    (λ s fresh regular ends. main_more limits sources o k before s fresh regular ends (has_ended s) refl)

pub regular_readings_are_programs : (limits : Limits) → RegularReadingsArePrograms limits
regular_readings_are_programs limits sources o n s fresh regular ends =
    let p : HasProgram limits sources o s = (all_of limits sources o n).main s fresh regular ends in
    let e : EndsAs limits sources o p.0 s = turns_do_programs limits sources o p.0 s p.1 in
    record { final = p.0; is_program = p.1; same = ap afresh (same_end limits sources o n e.turns s ends e.ends) ∙ e.same }
