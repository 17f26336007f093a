-- The state behind a token, by the results of the calls of its turn.
use Rattle.std.proofs.Common.{◌≡◌, ◌≤◌, ℕ, List, Bool, true, length, refl, ap, ◌∙◌}
use Rattle.inf_settings.specs.Bounds.{Limits}
use Rattle.inf_scanner.specs.{declared.tokens.Place.Place, declared.tokens.TokenKind.TokenKind}
use Rattle.inf_sources.specs.{Cursors.behind, Cursors.read, Inclusions.Nesting, Quoted.is_quoted_kind}
use Rattle.inf_unit.specs.{Tokens.SourceToken}
use Rattle.inf_conditionals.specs.{Judging.judged, Open.Conditions}
use Rattle.inf_reader.specs.Handing.{is_between, said_told, site_of}
use Rattle.inf_reader.specs.Reading.{ReaderState, is_mode_ended}
use Rattle.inf_session.specs.{Choices.Choices, Taking.Taken, Taking.token_at, Taking.token_taken}
use Rattle.inf_session.specs.Session.{State, context_of, stand_of, stepped, token_of}
use Rattle.inf_compilation.specs.Context.{Context}
use Rattle.inf_session.proofs.{Bounds.quoted_within, Stepping.end_ends}

-- the state behind a token
abbrev pub with_taken : State → Nesting → Taken → State
with_taken s n x = record {
  nesting = n;
  conditions = x.conditions;
  reading = x.stand.reading;
  work = x.stand.work;
  told = s.told;
  is_over = s.is_over;
  quoted = x.quoted;
  passed = s.passed;
}

abbrev pub moved : State → Nesting
moved s = record s.nesting { cursor = behind s.nesting.cursor (read s.nesting.cursor) }

abbrev pub taken_as : Conditions → ReaderState → ℕ → Taken
taken_as c x quoted = record { conditions = c; stand = x; quoted = quoted }

pub step_is : (limits : Limits) (o : Choices) (s : State) (n : Nesting) (x : Taken) (context : Context) (t : SourceToken)
    → n ≡ moved s → context ≡ context_of o s → t ≡ token_of s → x ≡ token_taken limits context t s.conditions (stand_of s) s.quoted
    → with_taken s n x ≡ stepped limits o s
step_is limits o s n x context t goes same is taken = ap (λ (n : Nesting). with_taken s n x) goes
    ∙ ap (λ (x : Taken). with_taken s (moved s) x) taken
    ∙ ap (λ (c : Context). with_taken s (moved s) (token_taken limits c t s.conditions (stand_of s) s.quoted)) same
    ∙ ap (λ (t : SourceToken). with_taken s (moved s) (token_taken limits (context_of o s) t s.conditions (stand_of s) s.quoted)) is

-- the longest quoted token stays as short as it may be
pub taken_within : (limits : Limits) (context : Context) (t : SourceToken) (c : Conditions) (s : ReaderState) (quoted most : ℕ)
    → (is_quoted_kind t.kind ≡ true → length t.bytes ≤ most) → quoted ≤ most → (token_taken limits context t c s quoted).quoted ≤ most
taken_within limits context t c s quoted most few before =
    let site = site_of context.settings s.reading in
    quoted_within site (judged site s.work.output t c).judged t quoted most few before

-- at the end of a file reading ends
pub taken_ends : (limits : Limits) (context : Context) (t : SourceToken) (c : Conditions) (s : ReaderState) (quoted : ℕ) →
    t.kind ≡ TokenKind.End → is_mode_ended (token_taken limits context t c s quoted).stand.reading.mode ≡ true
taken_ends limits context t c s quoted is =
    let site = site_of context.settings s.reading in let b = judged site s.work.output t c in
    end_ends limits context t.kind t.bytes t.place t.is_class s.work.output c (said_told limits b.now.said context s) site b.now b.judged
    refl is

pub token_is : (s : State) (front : Bool) (k : TokenKind) (bytes : List ℕ) (place : Place) → front ≡ is_between s.reading →
    k ≡ (read s.nesting.cursor).kind
    → place ≡ record { file = s.nesting.cursor.file; line = (read s.nesting.cursor).line } → bytes ≡ (read s.nesting.cursor).kept.bytes
    → token_at front k bytes place s.work ≡ token_of s
token_is s front k bytes place front_is kind_is place_is bytes_are =
    let r = read s.nesting.cursor in
    ap (λ x. token_at x k bytes place s.work) front_is ∙ ap (λ k. token_at (is_between s.reading) k bytes place s.work) kind_is
    ∙ ap (λ p. token_at (is_between s.reading) r.kind bytes p s.work) place_is
    ∙ ap (λ bytes. token_at (is_between s.reading) r.kind bytes (record { file = s.nesting.cursor.file; line = r.line }) s.work) bytes_are
