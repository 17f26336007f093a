-- The reading of a text by the tokens that are handed on.
use Rattle.std.proofs.Common.{◌≡◌, ℕ, zero, suc, List, [], ◌∷◌, ◌++◌, map, cond, true, false, None, is_some, refl, sym, ap}
use Rattle.std.proofs.Common.{◌∙◌, append_assoc, append-nil, subst}
use Rattle.std.proofs.lemmas.List.{map-append}
use Rattle.inf_settings.specs.Bounds.{Limits}
use Rattle.inf_devices.specs.Files.{Sources}
use Rattle.inf_machine.specs.{Grammar.IsOneOf, Grammar.IsText, Grammar.here, declared.symbols.Symbol.Symbol}
use Rattle.inf_machine.specs.Machine.{Read, fits, read}
use Rattle.inf_machine.proofs.ReadOn.{OneMore, reads_none, reads_one}
use Rattle.inf_machine.proofs.TokenLaws.{bad_tokens_begin_nothing, texts_are_taken}
use Rattle.inf_syntax.specs.declared.actions.Action.{Action}
use Rattle.inf_grammar.specs.{Evaluated.language_is_decided, Language.grammar, Language.known}
use Rattle.inf_unit.specs.Tokens.{SourceToken, atom_of}
use Rattle.inf_unit.proofs.Cases.{of_both}
use Rattle.inf_reader.specs.{Reading.Reading, Reading.between, Reading.passed, Reading.skip_of, declared.recovery.Recovery.Recovery}
use Rattle.inf_session.specs.{Choices.Choices, Session.State, Session.stepped, Session.turn}
use Rattle.inf_laws.specs.KeptTokens.{Given, GoesBehind, Kept, Unfit, all_given_to, bad_by, given_to, judged_by, kept_by, read_by, rests}
use Rattle.inf_laws.specs.KeptTokens.{skipped, token_in, took_by, unfit_by}
use Rattle.inf_laws.specs.KeptTurns.{StayInFile, given_by, given_in, turned}
use Rattle.inf_laws.proofs.{KeptTokens.given_both, KeptTokens.skipped_more, KeptTurns.stepped_reading, KeptTurns.turn_reading}
use Rattle.inf_calls.specs.Calls.{begun_with_rule}
use Rattle.inf_call_laws.specs.BadTexts.{BadTokensOfTexts, BeginsText, BehindABadToken, BehindAText, InAText, IsBad, IsTextOf, TextStands}
use Rattle.inf_call_laws.specs.Texts.{alone_rules, text_begun}
use Rattle.inf_call_laws.proofs.Stacks.{alone_is_quiet, are_quiet, outside, still_quiet}

-- Lemmas about a text so far

record At (rule : ℕ) (tokens : List SourceToken) (r : Reading) : Type 0 where
  pub reads : r.mode ≡ Recovery.Reads
  pub is_read : OneMore grammar known (Symbol.Rule rule ∷ []) (map atom_of tokens) r.stack
  pub is_quiet : are_quiet r.stack ≡ true

begins : (rule : ℕ) (tokens : List SourceToken) (r : Reading) → At rule tokens r → BeginsText rule (map atom_of tokens)
begins rule tokens r at = record {
  begins = (bad_tokens_begin_nothing grammar known rule (map atom_of tokens) language_is_decided).0 (ap is_some at.is_read.is_read);
}

stops : (rule : ℕ) (tokens : List SourceToken) (r : Reading) (t : SourceToken) → At rule tokens r
    → fits grammar known (atom_of t) r.stack ≡ false → BeginsText rule (map atom_of (tokens ++ t ∷ [])) → ⊥
stops rule tokens r t at out b =
    let text : List (Symbol Action) = Symbol.Rule rule ∷ [] in
    let some : is_some (read grammar known text (map atom_of (tokens ++ t ∷ []))) ≡ true =
    (bad_tokens_begin_nothing grammar known rule (map atom_of (tokens ++ t ∷ [])) language_is_decided).1 b.begins in
    let nothing : read grammar known text (map atom_of tokens ++ map atom_of (t ∷ [])) ≡ None =
    reads_none grammar known text (map atom_of tokens) (atom_of t) r.stack at.is_read out in
    let absent : true ≡ false =
    sym some ∙ (ap (λ atoms. is_some (read grammar known text atoms)) (map-append atom_of tokens (t ∷ [])) ∙ ap is_some nothing) in cc

goes : (rule : ℕ) (tokens : List SourceToken) (r : Reading) (t : SourceToken) → At rule tokens r
    → fits grammar known (atom_of t) r.stack ≡ true → At rule (tokens ++ t ∷ []) (took_by (atom_of t) r)
goes rule tokens r t at f = record {
  reads = at.reads;
  is_read = subst (λ atoms. OneMore grammar known (Symbol.Rule rule ∷ []) atoms (took_by (atom_of t) r).stack)
      (sym (map-append atom_of tokens (t ∷ [])))
      (reads_one grammar known (Symbol.Rule rule ∷ []) (map atom_of tokens) (atom_of t) r.stack at.is_read f);
  is_quiet = still_quiet (atom_of t) r.stack at.is_quiet f;
}

ends : (rule : ℕ) (tokens : List SourceToken) (r : Reading) → At rule tokens r → r.stack ≡ [] → IsTextOf rule (map atom_of tokens)
ends rule tokens r at empty =
    let q : Read Action = at.is_read.r in
    let nothing_left : [] ≡ q.left = sym (at.is_read.leaves ∙ empty) in
    record {
      events = q.events ++ [];
      is_text = (texts_are_taken grammar known rule (map atom_of tokens) (q.events ++ []) language_is_decided).1
          (q, [], at.is_read.is_read, refl, subst (λ symbols. IsText grammar symbols [] []) nothing_left here);
    }

no_token : (rule : ℕ) (r : Reading) → IsOneOf rule alone_rules → r ≡ text_begun rule → At rule [] r
no_token rule r is fresh =
    let stack : r.stack ≡ Symbol.Rule rule ∷ [] = ap (λ (x : Reading). x.stack) fresh in
    record {
      reads = ap (λ (x : Reading). x.mode) fresh;
      is_read = record { r = record { events = []; left = Symbol.Rule rule ∷ [] }; is_read = refl; leaves = sym stack };
      is_quiet = ap are_quiet stack ∙ alone_is_quiet rule is;
    }

-- Lemmas about the state of the reading

data Now (rule : ℕ) (given : List Given) (r : Reading) : Type 0 where
  Inside : (tokens : List SourceToken) → given ≡ map Kept tokens → At rule tokens r → (r.stack ≡ [] → ⊥) → Now rule given r
  Whole : (tokens : List SourceToken) → given ≡ map Kept tokens → IsTextOf rule (map atom_of tokens) → r ≡ between Recovery.Reads →
      Now rule given r
  Skips : (tokens : List SourceToken) (wrong : Given) (behind : List Given) → given ≡ map Kept tokens ++ wrong ∷ behind →
      BeginsText rule (map atom_of tokens) → IsBad rule tokens wrong →
      r ≡ between (skipped Recovery.SkipsDirective (wrong ∷ behind)) → Now rule given r

stands : (rule : ℕ) (given : List Given) (r : Reading) → Now rule given r → TextStands rule given r
stands rule given r (Inside tokens e at some) = InAText tokens e (begins rule tokens r at) at.reads
stands rule given r (Whole tokens e is at) = BehindAText tokens e is at
stands rule given r (Skips tokens wrong behind e begun bad_one at) = BehindABadToken tokens wrong behind e begun bad_one at

-- Lemmas about one token more

taken_now : (rule : ℕ) (given : List Given) (tokens : List SourceToken) (r : Reading) → given ≡ map Kept tokens → At rule tokens r
    → Now rule given r
taken_now rule given tokens r e at = by_stack r.stack refl
  where
    by_stack : (stack : List (Symbol Action)) → r.stack ≡ stack → Now rule given r
    by_stack [] empty = Whole tokens e (ends rule tokens r at empty)
        (ap (λ m. record { mode = m; stack = r.stack }) at.reads ∙ ap (λ stack. record { mode = Recovery.Reads; stack = stack }) empty)
    by_stack (symbol ∷ symbols) some = Inside tokens e at (λ empty. let never : [] ≡ symbol ∷ symbols = sym empty ∙ some in cc)

-- A bad token is passed over as in a directive.
wrong_now : (rule : ℕ) (given : List Given) (tokens : List SourceToken) (r now : Reading) (wrong : Given)
    → given ≡ map Kept tokens ++ wrong ∷ [] → At rule tokens r → IsBad rule tokens wrong
    → now ≡ between (passed (skip_of r.stack) (token_in wrong).kind) → Now rule given now
wrong_now rule given tokens r now wrong e at is_bad same = Skips tokens wrong [] e (begins rule tokens r at) is_bad
    (same ∙ ap (λ b. between (passed (cond b Recovery.SkipsRoutine Recovery.SkipsDirective) (token_in wrong).kind))
    (outside r.stack at.is_quiet))

judged_now : (rule : ℕ) (given : List Given) (tokens : List SourceToken) (r : Reading) (t : SourceToken) → given ≡ map Kept tokens
    → At rule tokens r → Now rule (given ++ Kept t ∷ []) (judged_by t r)
judged_now rule given tokens r t e at =
    let all = ap (λ gs. gs ++ Kept t ∷ []) e in
    of_both (λ (x : Reading). Now rule (given ++ Kept t ∷ []) x) (fits grammar known (atom_of t) r.stack) (took_by (atom_of t) r)
    (bad_by t.kind r)
    (λ f. taken_now rule (given ++ Kept t ∷ []) (tokens ++ t ∷ []) (took_by (atom_of t) r) (all ∙ sym (map-append Kept tokens (t ∷ [])))
    (goes rule tokens r t at f))
    (λ out. wrong_now rule (given ++ Kept t ∷ []) tokens r (bad_by t.kind r) (Kept t) all at (stops rule tokens r t at out) refl)

skips_on : (m : Recovery) (g : Given) (r : Reading) → r ≡ between m → rests (between m) ≡ false
    → given_to g r ≡ between (passed m (token_in g).kind)
skips_on Recovery.Reads g r e on = cc
skips_on Recovery.Ended g r e on = cc
skips_on Recovery.SkipsRoutine (Kept t) r e on = ap (λ (x : Reading). given_to (Kept t) x) e
skips_on Recovery.SkipsDirective (Kept t) r e on = ap (λ (x : Reading). given_to (Kept t) x) e
skips_on Recovery.SkipsRoutine (Unfit t) r e on = ap (λ (x : Reading). given_to (Unfit t) x) e
skips_on Recovery.SkipsDirective (Unfit t) r e on = ap (λ (x : Reading). given_to (Unfit t) x) e

reads_inside : (stack : List (Symbol Action)) (t : SourceToken) (r : Reading) → (stack ≡ [] → ⊥) → read_by stack t r ≡ judged_by t r
reads_inside [] t r some = absurd (some refl)
reads_inside (symbol ∷ symbols) t r some = refl

next : (rule : ℕ) (g : Given) (before : List Given) (r : Reading) → Now rule before r → rests r ≡ false
    → Now rule (before ++ g ∷ []) (given_to g r)
next rule (Kept t) before r (Inside tokens e at some) on =
    let same : given_to (Kept t) r ≡ judged_by t r = ap (λ m. kept_by m t r) at.reads ∙ reads_inside r.stack t r some in
    subst (λ (x : Reading). Now rule (before ++ Kept t ∷ []) x) (sym same) (judged_now rule before tokens r t e at)
next rule (Unfit t) before r (Inside tokens e at some) on =
    wrong_now rule (before ++ Unfit t ∷ []) tokens r (given_to (Unfit t) r) (Unfit t) (ap (λ gs. gs ++ Unfit t ∷ []) e) at tt
    (ap (λ m. unfit_by m t r) at.reads)
next rule g before r (Whole tokens e is at) on = absurd (let never : true ≡ false = sym (ap rests at) ∙ on in cc)
next rule g before r (Skips tokens wrong behind e begun is_bad at) on =
    let m = skipped Recovery.SkipsDirective (wrong ∷ behind) in
    Skips tokens wrong (behind ++ g ∷ []) (ap (λ gs. gs ++ g ∷ []) e ∙ append_assoc (map Kept tokens) (wrong ∷ behind) (g ∷ [])) begun
    is_bad
    (skips_on m g r at (sym (ap rests at) ∙ on) ∙ ap between (sym (skipped_more Recovery.SkipsDirective (wrong ∷ behind) g)))

onward : (rule : ℕ) (given before : List Given) (r : Reading) → Now rule before r → GoesBehind given r
    → TextStands rule (before ++ given) (all_given_to given r)
onward rule [] before r now on = subst (λ gs. TextStands rule gs r) (sym (append-nil before)) (stands rule before r now)
onward rule (g ∷ given) before r now on =
    subst (λ gs. TextStands rule gs (all_given_to given (given_to g r))) (append_assoc before (g ∷ []) given)
    (onward rule given (before ++ g ∷ []) (given_to g r) (next rule g before r now on.0) on.1)

text_reads : (rule : ℕ) → IsOneOf rule alone_rules → (given : List Given) (r : Reading) → r ≡ text_begun rule → GoesBehind given r
    → TextStands rule given (all_given_to given r)
text_reads rule is given r fresh on =
    let some : r.stack ≡ [] → ⊥ =
    λ empty. let never : Symbol.Rule rule ∷ [] ≡ [] = sym (ap (λ (x : Reading). x.stack) fresh) ∙ empty in cc in
    onward rule given [] r (Inside [] refl (no_token rule r is fresh) some) on

-- Lemmas about turns

all_reading : (limits : Limits) (sources : Sources) (o : Choices) (n : ℕ) (s : State) → StayInFile limits sources o n s
    → (stepped limits o (turned limits sources o n s)).reading ≡ all_given_to (given_in limits sources o (suc n) s) s.reading
all_reading limits sources o zero s stay =
    stepped_reading limits o s ∙ ap (λ gs. all_given_to gs s.reading) (sym (append-nil (given_by o s)))
all_reading limits sources o (suc n) s stay =
    let after = turn limits sources o s in
    all_reading limits sources o n after stay.1
    ∙ (ap (λ (r : Reading). all_given_to (given_in limits sources o (suc n) after) r)
    (turn_reading limits sources o s stay.0 ∙ stepped_reading limits o s)
    ∙ sym (given_both (given_by o s) (given_in limits sources o (suc n) after) s.reading))

turns_read : (limits : Limits) (rule : ℕ) → IsOneOf rule alone_rules → (sources : Sources) (o : Choices) (n : ℕ) (s : State)
    → s.reading ≡ between Recovery.Reads → StayInFile limits sources o n (begun_with_rule rule s)
    → GoesBehind (given_in limits sources o (suc n) (begun_with_rule rule s)) (text_begun rule)
    → TextStands rule (given_in limits sources o (suc n) (begun_with_rule rule s))
    (stepped limits o (turned limits sources o n (begun_with_rule rule s))).reading
turns_read limits rule is sources o n s fresh stay on =
    let b = begun_with_rule rule s in
    let given = given_in limits sources o (suc n) b in
    let begun : b.reading ≡ text_begun rule = ap (λ (r : Reading). record r { stack = Symbol.Rule rule ∷ r.stack }) fresh in
    subst (λ (r : Reading). TextStands rule given r)
    (sym (all_reading limits sources o n b stay ∙ ap (all_given_to given) begun))
    (text_reads rule is given (text_begun rule) refl on)

pub bad_tokens_of_texts : (limits : Limits) → BadTokensOfTexts limits
bad_tokens_of_texts limits = record { read = text_reads; turns = turns_read limits }
