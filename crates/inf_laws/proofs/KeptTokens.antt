-- The reading by the tokens that are handed on.
use Rattle.std.proofs.Common.{◌≡◌, List, [], ◌∷◌, ◌++◌, map, cond, Bool, true, false, Option, Some, None, is_some, refl, sym, ap, subst}
use Rattle.std.proofs.Common.{◌∙◌, append_assoc}
use Rattle.std.proofs.lemmas.List.{append-nil, map-append}
use Rattle.inf_settings.specs.Bounds.{Limits}
use Rattle.inf_scanner.specs.declared.tokens.Place.{Place}
use Rattle.inf_unit.specs.Tokens.{SourceToken, atom_of, is_end}
use Rattle.inf_unit.proofs.Cases.{of_both}
use Rattle.inf_machine.specs.{Grammar.IsText, Grammar.here, declared.symbols.Symbol.Symbol}
use Rattle.inf_machine.specs.Machine.{Read, fits, read}
use Rattle.inf_machine.proofs.ReadOn.{OneMore, reads_none, reads_one}
use Rattle.inf_machine.proofs.TokenLaws.{bad_tokens_begin_nothing, texts_are_taken}
use Rattle.inf_syntax.specs.declared.actions.Action.{Action}
use Rattle.inf_grammar.specs.{Brackets.is_bracket_open, Evaluated.language_is_decided, Routines.is_in_routine, Sources.is_inside}
use Rattle.inf_grammar.specs.Language.{grammar, known}
use Rattle.inf_conditionals.specs.{declared.filtered.Forwarded.Forwarded, declared.filtered.Sign.Sign}
use Rattle.inf_compilation.specs.{Actions.Compilation, Actions.piece_begun as work_begun, Context.Context}
use Rattle.inf_reader.specs.{Pieces.BeginsPiece, Pieces.IsPiece, declared.recovery.Recovery.Recovery}
use Rattle.inf_reader.specs.Handing.{handed_as, hash, lone_told, sign_taken, token_taken, unfit_in, unit_ended}
use Rattle.inf_reader.specs.Reading.{Reading, ReaderState, bad, between, judged, passed, piece_begun, piece_rule, read_at, skip_of, step_in}
use Rattle.inf_reader.specs.Reading.{took}
use Rattle.inf_laws.specs.BadTokens.{skip_behind}
use Rattle.inf_laws.specs.KeptTokens.{BehindABadToken, BehindAPiece, BehindTheEnd, Given, GoesBehind, InAPiece, IsBad, Kept}
use Rattle.inf_laws.specs.KeptTokens.{KeptTokensAreRead, Stands, TokensAreHandedOn, Unfit, all_given_to, bad_by, given_as, given_sign}
use Rattle.inf_laws.specs.KeptTokens.{given_to, given_token, judged_by, kept_by, read_by, rests, skipped, token_in, took_by, unfit_by}
use Rattle.inf_laws.proofs.BadTokens.{bracketed}

-- The tokens alone decide the reading

judged_reads : (limits : Limits) (context : Context) (t : SourceToken) (r : Reading) (w : Compilation) →
    (judged limits context t r w).reading ≡ judged_by t r
judged_reads limits context t r w = go (fits grammar known (atom_of t) r.stack)
  where
    go : (b : Bool) → (cond b (took limits context t r w) (bad limits context t r w)).reading
        ≡ cond b (took_by (atom_of t) r) (bad_by t.kind r)
    go true = refl
    go false = refl

reads_at : (limits : Limits) (context : Context) (t : SourceToken) (stack : List (Symbol Action)) (r : Reading) (w : Compilation) →
    (read_at limits context t stack r w).reading ≡ read_by stack t r
reads_at limits context t [] r w = go (is_end t.kind)
  where
    go : (b : Bool) → (cond b (record { reading = record r { mode = Recovery.Ended }; work = w })
        (judged limits context t (piece_begun r) (work_begun w))).reading
        ≡ cond b (record r { mode = Recovery.Ended }) (judged_by t (piece_begun r))
    go true = refl
    go false = judged_reads limits context t (piece_begun r) (work_begun w)
reads_at limits context t (symbol ∷ symbols) r w = judged_reads limits context t r w

step_reads : (limits : Limits) (m : Recovery) (context : Context) (t : SourceToken) (r : Reading) (w : Compilation) →
    (step_in limits m context t r w).reading ≡ kept_by m t r
step_reads limits Recovery.Reads context t r w = reads_at limits context t r.stack r w
step_reads limits other context t r w = refl

-- a token that is passed over needs no grammar
unfit_step : (limits : Limits) (m : Recovery) (context : Context) (t : SourceToken) (s : ReaderState) → s.reading.mode ≡ m →
    (unfit_in limits m context t s).reading ≡ unfit_by m t s.reading
unfit_step limits Recovery.Reads context t s e = refl
unfit_step limits other context t s e = ap (λ m. (step_in limits m context t s.reading s.work).reading) e

handed_reads : (limits : Limits) (h : Forwarded) (context : Context) (t : SourceToken) (s : ReaderState) →
    (handed_as limits h context t s).reading ≡ all_given_to (given_as h t) s.reading
handed_reads limits Forwarded.Kept context t s = step_reads limits s.reading.mode context t s.reading s.work
handed_reads limits Forwarded.Unfit context t s = unfit_step limits s.reading.mode context t s refl
handed_reads limits Forwarded.Condition context t s = refl

sign_reads : (limits : Limits) (o : Option Sign) (context : Context) (s : ReaderState) →
    (sign_taken limits o context s).reading ≡ all_given_to (given_sign o) s.reading
sign_reads limits None context s = refl
sign_reads limits (Some sign) context s = handed_reads limits sign.handed context (hash sign.place) s

token_reads : (limits : Limits) (o : Option Forwarded) (context : Context) (t : SourceToken) (s : ReaderState) →
    (token_taken limits o context t s).reading ≡ all_given_to (given_token o t) s.reading
token_reads limits None context t s = refl
token_reads limits (Some h) context t s = handed_reads limits h context t s

lone_reading : (o : Option Place) (context : Context) (s : ReaderState) → (lone_told o context s).reading ≡ s.reading
lone_reading None context s = refl
lone_reading (Some place) context s = refl

ended_reading : (limits : Limits) (o : Option Place) (context : Context) (s : ReaderState) →
    (unit_ended limits o context s).reading ≡ s.reading
ended_reading limits None context s = refl
ended_reading limits (Some place) context s = refl

pub given_both : (first second : List Given) (r : Reading) → all_given_to (first ++ second) r ≡ all_given_to second (all_given_to first r)
given_both [] second r = refl
given_both (g ∷ first) second r = given_both first second (given_to g r)

pub tokens_are_handed_on : (limits : Limits) → TokensAreHandedOn limits
tokens_are_handed_on limits context t j s =
    let signed = sign_taken limits j.sign context s in
    let told = token_taken limits j.token context t signed in
    ended_reading limits j.ended context (lone_told j.unmatched context told)
    ∙ lone_reading j.unmatched context told
    ∙ token_reads limits j.token context t signed
    ∙ ap (λ (r : Reading). all_given_to (given_token j.token t) r) (sign_reads limits j.sign context s)
    ∙ sym (given_both (given_sign j.sign) (given_token j.token t) s.reading)

-- Lemmas about a piece so far

abbrev piece : List (Symbol Action)
piece = Symbol.Rule piece_rule ∷ []

pub record At (tokens : List SourceToken) (r : Reading) : Type 0 where
  pub reads : r.mode ≡ Recovery.Reads
  pub is_read : OneMore grammar known piece (map atom_of tokens) r.stack

pub begins : (tokens : List SourceToken) (r : Reading) → At tokens r → BeginsPiece (map atom_of tokens)
begins tokens r at = record {
  begins = (bad_tokens_begin_nothing grammar known piece_rule (map atom_of tokens) language_is_decided).0 (ap is_some at.is_read.is_read);
}

pub stops : (tokens : List SourceToken) (r : Reading) (t : SourceToken) → At tokens r → fits grammar known (atom_of t) r.stack ≡ false →
    BeginsPiece (map atom_of (tokens ++ t ∷ [])) → ⊥
stops tokens r t at out b =
    let absent : true ≡ false = sym some ∙ ap (λ atoms. is_some (read grammar known piece atoms)) (map-append atom_of tokens (t ∷ []))
    ∙ ap is_some nothing in cc
  where
    some : is_some (read grammar known piece (map atom_of (tokens ++ t ∷ []))) ≡ true
    some = (bad_tokens_begin_nothing grammar known piece_rule (map atom_of (tokens ++ t ∷ [])) language_is_decided).1 b.begins

    nothing : read grammar known piece (map atom_of tokens ++ map atom_of (t ∷ [])) ≡ None
    nothing = reads_none grammar known piece (map atom_of tokens) (atom_of t) r.stack at.is_read out

pub goes : (tokens : List SourceToken) (r : Reading) (t : SourceToken) → At tokens r → fits grammar known (atom_of t) r.stack ≡ true →
    At (tokens ++ t ∷ []) (took_by (atom_of t) r)
goes tokens r t at f = record {
  reads = at.reads;
  is_read = subst (λ atoms. OneMore grammar known piece atoms (took_by (atom_of t) r).stack) (sym (map-append atom_of tokens (t ∷ [])))
      (reads_one grammar known piece (map atom_of tokens) (atom_of t) r.stack at.is_read f);
}

ends : (tokens : List SourceToken) (r : Reading) → At tokens r → r.stack ≡ [] → IsPiece (map atom_of tokens)
ends tokens r at empty =
    let q : Read Action = at.is_read.r in
    let nothing_left : [] ≡ q.left = sym (at.is_read.leaves ∙ empty) in
    record {
      events = q.events ++ [];
      is_text = (texts_are_taken grammar known piece_rule (map atom_of tokens) (q.events ++ []) language_is_decided).1
          (q, [], at.is_read.is_read, refl, subst (λ symbols. IsText grammar symbols [] []) nothing_left here);
    }

pub no_token : At [] (piece_begun (between Recovery.Reads))
no_token = record { reads = refl; is_read = record { r = record { events = []; left = piece }; is_read = refl; leaves = refl } }

-- the way in which tokens are passed over behind those of a piece is decided by their brackets
skips_as : (tokens : List SourceToken) (r : Reading) → At tokens r → skip_of r.stack ≡ skip_behind (map atom_of tokens)
skips_as tokens r at =
    let left : is_in_routine r.stack ≡ is_bracket_open (map atom_of tokens) =
    ap is_in_routine (sym at.is_read.leaves) ∙ sym (ap is_inside at.is_read.is_read)
    ∙ bracketed (map atom_of tokens) (begins tokens r at) in
    ap (λ b. cond b Recovery.SkipsRoutine Recovery.SkipsDirective) left

-- Lemmas about the state of the reading

pub data Now (given : List Given) (r : Reading) : Type 0 where
  Inside : (tokens : List SourceToken) → given ≡ map Kept tokens → At tokens r → (r.stack ≡ [] → ⊥) → Now given r
  Whole : (tokens : List SourceToken) → given ≡ map Kept tokens → IsPiece (map atom_of tokens) → r ≡ between Recovery.Reads → Now given r
  Skips : (tokens : List SourceToken) (wrong : Given) (behind : List Given) → given ≡ map Kept tokens ++ wrong ∷ behind →
      BeginsPiece (map atom_of tokens) → IsBad tokens wrong →
      r ≡ between (skipped (skip_behind (map atom_of tokens)) (wrong ∷ behind)) → Now given r
  Ended : (t : SourceToken) → given ≡ Kept t ∷ [] → is_end t.kind ≡ true → r ≡ between Recovery.Ended → Now given r

pub stands : (given : List Given) (r : Reading) → Now given r → Stands given r
stands given r (Inside tokens e at some) = InAPiece tokens e (begins tokens r at) at.reads
stands given r (Whole tokens e is at) = BehindAPiece tokens e is at
stands given r (Skips tokens wrong behind e begun bad_one at) = BehindABadToken tokens wrong behind e begun bad_one at
stands given r (Ended t e is at) = BehindTheEnd t e is at

-- one token more
kept_more : (tokens : List SourceToken) (t : SourceToken) → map Kept tokens ++ Kept t ∷ [] ≡ map Kept (tokens ++ t ∷ [])
kept_more tokens t = sym (map-append Kept tokens (t ∷ []))

-- the state after a token is taken
taken_now : (given : List Given) (tokens : List SourceToken) (r : Reading) (t : SourceToken) → given ≡ map Kept (tokens ++ t ∷ []) →
    At (tokens ++ t ∷ []) r → Now given r
taken_now given tokens r t e at = by_stack r.stack refl
  where
    by_stack : (stack : List (Symbol Action)) → r.stack ≡ stack → Now given r
    by_stack [] empty = Whole (tokens ++ t ∷ []) e (ends (tokens ++ t ∷ []) r at empty)
        (ap (λ m. record { mode = m; stack = r.stack }) at.reads ∙ ap (λ stack. record { mode = Recovery.Reads; stack = stack }) empty)
    by_stack (symbol ∷ symbols) some = Inside (tokens ++ t ∷ []) e at (λ empty. let never : [] ≡ symbol ∷ symbols = sym empty ∙ some in cc)

-- the state after a bad token
wrong_now : (given : List Given) (tokens : List SourceToken) (r now : Reading) (wrong : Given) → given ≡ map Kept tokens ++ wrong ∷ [] →
    At tokens r → IsBad tokens wrong
    → now ≡ between (passed (skip_of r.stack) (token_in wrong).kind) → Now given now
wrong_now given tokens r now wrong e at is_bad same =
    Skips tokens wrong [] e (begins tokens r at) is_bad (same ∙ ap (λ m. between (passed m (token_in wrong).kind)) (skips_as tokens r at))

judged_now : (given : List Given) (tokens : List SourceToken) (r : Reading) (t : SourceToken) → given ≡ map Kept tokens → At tokens r
    → Now (given ++ Kept t ∷ []) (judged_by t r)
judged_now given tokens r t e at =
    of_both (λ (x : Reading). Now (given ++ Kept t ∷ []) x) (fits grammar known (atom_of t) r.stack) (took_by (atom_of t) r)
    (bad_by t.kind r)
    (λ f. taken_now (given ++ Kept t ∷ []) tokens (took_by (atom_of t) r) t (ap (λ gs. gs ++ Kept t ∷ []) e ∙ kept_more tokens t)
    (goes tokens r t at f))
    (λ out. wrong_now (given ++ Kept t ∷ []) tokens r (bad_by t.kind r) (Kept t) (ap (λ gs. gs ++ Kept t ∷ []) e) at
    (stops tokens r t at out) refl)

-- Lemmas about the first token

pub first : (g : Given) (r : Reading) → r ≡ between Recovery.Reads → Now (g ∷ []) (given_to g r)
first (Kept t) r fresh = subst (λ (x : Reading). Now (Kept t ∷ []) x) (sym (ap (λ (x : Reading). given_to (Kept t) x) fresh))
    (of_both (λ (x : Reading). Now (Kept t ∷ []) x) (is_end t.kind) (record (between Recovery.Reads) { mode = Recovery.Ended })
    (judged_by t (piece_begun (between Recovery.Reads)))
    (λ e. Ended t refl e refl)
    (λ _. judged_now [] [] (piece_begun (between Recovery.Reads)) t refl no_token))
first (Unfit t) r fresh = Skips [] (Unfit t) [] refl (begins [] (piece_begun (between Recovery.Reads)) no_token) tt
    (ap (λ (x : Reading). given_to (Unfit t) x) fresh)

-- Lemmas about a further token

pub skipped_more : (m : Recovery) (behind : List Given) (g : Given) →
    skipped m (behind ++ g ∷ []) ≡ passed (skipped m behind) (token_in g).kind
skipped_more m [] g = refl
skipped_more m (x ∷ behind) g = skipped_more (passed m (token_in x).kind) behind g

skips_on : (m : Recovery) (g : Given) (r : Reading) → r ≡ between m → rests (between m) ≡ false →
    given_to g r ≡ between (passed m (token_in g).kind)
skips_on Recovery.Reads g r e on = cc
skips_on Recovery.Ended g r e on = cc
skips_on Recovery.SkipsRoutine (Kept t) r e on = ap (λ (x : Reading). given_to (Kept t) x) e
skips_on Recovery.SkipsDirective (Kept t) r e on = ap (λ (x : Reading). given_to (Kept t) x) e
skips_on Recovery.SkipsRoutine (Unfit t) r e on = ap (λ (x : Reading). given_to (Unfit t) x) e
skips_on Recovery.SkipsDirective (Unfit t) r e on = ap (λ (x : Reading). given_to (Unfit t) x) e

-- inside of a piece
reads_inside : (stack : List (Symbol Action)) (t : SourceToken) (r : Reading) → (stack ≡ [] → ⊥) → read_by stack t r ≡ judged_by t r
reads_inside [] t r some = absurd (some refl)
reads_inside (symbol ∷ symbols) t r some = refl

pub next : (g : Given) (before : List Given) (r : Reading) → Now before r → rests r ≡ false → Now (before ++ g ∷ []) (given_to g r)
next (Kept t) before r (Inside tokens e at some) on =
    let same : given_to (Kept t) r ≡ judged_by t r = ap (λ m. kept_by m t r) at.reads ∙ reads_inside r.stack t r some in
    subst (λ (x : Reading). Now (before ++ Kept t ∷ []) x) (sym same) (judged_now before tokens r t e at)
next (Unfit t) before r (Inside tokens e at some) on =
    wrong_now (before ++ Unfit t ∷ []) tokens r (given_to (Unfit t) r) (Unfit t) (ap (λ gs. gs ++ Unfit t ∷ []) e) at tt
    (ap (λ m. unfit_by m t r) at.reads)
next g before r (Whole tokens e is at) on = absurd (let never : true ≡ false = sym (ap rests at) ∙ on in cc)
next g before r (Ended t e is at) on = absurd (let never : true ≡ false = sym (ap rests at) ∙ on in cc)
next g before r (Skips tokens wrong behind e begun is_bad at) on =
    let m = skipped (skip_behind (map atom_of tokens)) (wrong ∷ behind) in
    Skips tokens wrong (behind ++ g ∷ []) (ap (λ gs. gs ++ g ∷ []) e ∙ append_assoc (map Kept tokens) (wrong ∷ behind) (g ∷ [])) begun
    is_bad
    (skips_on m g r at (sym (ap rests at) ∙ on) ∙ ap between (sym (skipped_more (skip_behind (map atom_of tokens)) (wrong ∷ behind) g)))

onward : (given before : List Given) (r : Reading) → Now before r → GoesBehind given r → Stands (before ++ given) (all_given_to given r)
onward [] before r now on = subst (λ gs. Stands gs r) (sym (append-nil before)) (stands before r now)
onward (g ∷ given) before r now on = subst (λ gs. Stands gs (all_given_to given (given_to g r))) (append_assoc before (g ∷ []) given)
    (onward given (before ++ g ∷ []) (given_to g r) (next g before r now on.0) on.1)

pub kept_tokens_are_read : KeptTokensAreRead
kept_tokens_are_read [] r fresh on =
    InAPiece [] refl (begins [] (piece_begun (between Recovery.Reads)) no_token) (ap (λ (x : Reading). x.mode) fresh)
kept_tokens_are_read (g ∷ given) r fresh on = onward given (g ∷ []) (given_to g r) (first g r fresh) on
