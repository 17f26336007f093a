-- A directive asks for something at the end of its piece alone: no other action asks for anything, and it ends before the last token.
use Rattle.std.proofs.Common.{◌≡◌, List, [], ◌∷◌, ◌&&◌, ◌||◌, Bool, true, false, None, refl, sym, ◌∙◌, ap, true≢false, if◌then◌else◌}
use Rattle.inf_settings.specs.Bounds.{Limits}
use Rattle.inf_scanner.specs.{declared.tokens.Mark.Mark, declared.tokens.Place.Place, declared.tokens.TokenKind.TokenKind}
use Rattle.inf_machine.specs.{Grammar.has, Laws.IsSpaced, declared.symbols.Symbol.Symbol}
use Rattle.inf_machine.specs.Machine.{Taken, fits, taken, work}
use Rattle.inf_machine.proofs.Taking.{spaced_left}
use Rattle.inf_syntax.specs.declared.actions.Action.{Action}
use Rattle.inf_grammar.specs.{Evaluated.language_is_decided, Language.grammar, Language.known}
use Rattle.inf_unit.specs.{Atoms.atom_of_kind, Directives.Nothing, Roles.role_of, declared.roles.Ending.Ending, declared.roles.Role.Role}
use Rattle.inf_unit.specs.Tokens.{SourceToken, atom_of, is_end}
use Rattle.inf_compilation.specs.{Actions.Compilation, Actions.piece_begun as work_begun, Context.Context}
use Rattle.inf_reader.specs.{Acting.act, Acting.acted, Acting.all_acted, declared.recovery.Recovery.Recovery}
use Rattle.inf_reader.specs.Handing.{is_between, is_empty, reads, unfit_in}
use Rattle.inf_reader.specs.Reading.{Reading, ReaderState, bad, judged, piece_begun, piece_rule, read_at, step_in, took}
use Rattle.inf_laws.specs.KeptTokens.{Given, Kept, Unfit, token_in}
use Rattle.inf_grammar.proofs.Spaced.{rule_is_spaced}
use Rattle.inf_message_laws.proofs.Walked.{messages_grow}
use Rattle.inf_program.specs.{Turns.step_by, definition.Steps.Reads}
use Rattle.inf_program.proofs.Stepping.{stand}
use Rattle.inf_program.proofs.EndStacks.{Lasts, ends_directive, ends_last, is_directive_end, no_semicolon, some_end, token_lasts}

-- Before a token nothing is asked, and the end of a directive comes last in the rest of the piece.
pub record Calm (x : ReaderState) : Type 0 where
  pub asks : x.work.asked ≡ Nothing
  pub last : ends_last x.reading.stack ≡ true
  pub spaced : IsSpaced grammar known x.reading.stack

-- Behind a token something is asked only between two pieces, and nothing is behind a `#`.
pub record Settled (k : TokenKind) (x : ReaderState) : Type 0 where
  pub inside : is_between x.reading ≡ false → x.work.asked ≡ Nothing
  pub hash : k ≡ TokenKind.Mark Mark.Hash → x.work.asked ≡ Nothing
  pub last : ends_last x.reading.stack ≡ true
  pub spaced : IsSpaced grammar known x.reading.stack

settled : (k : TokenKind) (x : ReaderState) → Calm x → Settled k x
settled k x c = record { inside = λ _. c.asks; hash = λ _. c.asks; last = c.last; spaced = c.spaced }

-- Lemmas about actions

none_of_both : (a b : Bool) → (a || b) ≡ false → (a ≡ false) × (b ≡ false)
none_of_both true b e = absurd (true≢false e)
none_of_both false b e = (refl, e)

other_action : (a : Action) → ends_directive a ≡ false → role_of a ≡ Role.End Ending.Directive → ⊥
other_action a free e = true≢false (sym (ap is_directive_end e) ∙ free)

acted_asks : (limits : Limits) (context : Context) (place : Place) (actions : List Action) (w : Compilation) → some_end actions ≡ false
    → (acted limits context place actions w).asked ≡ w.asked
acted_asks limits context place [] w none = refl
acted_asks limits context place (a ∷ actions) w none =
    let both = none_of_both (ends_directive a) (some_end actions) none in
    acted_asks limits context place actions (act limits context place a w) both.1
    ∙ (messages_grow limits).asks.action context place a w (other_action a both.0)

took_asks : (limits : Limits) (context : Context) (t : SourceToken) (r : Reading) (w : Compilation)
    → some_end (taken grammar known (atom_of t) r.stack).actions ≡ false → (took limits context t r w).work.asked ≡ w.asked
took_asks limits context t r w none =
    let actions : List Action = (taken grammar known (atom_of t) r.stack).actions in
    (messages_grow limits).asks.token context t (all_acted limits context t.place actions w)
    ∙ acted_asks limits context t.place actions (record w { opening = None }) none

-- Lemmas about tokens

hash_atom : (t : SourceToken) → t.kind ≡ TokenKind.Mark Mark.Hash → has (grammar.atoms_of 0) (atom_of t) ≡ false
hash_atom t e = ap (λ (k : TokenKind). has (grammar.atoms_of 0) (atom_of_kind t.is_class k t.bytes)) e ∙ no_semicolon

took_by : (limits : Limits) (context : Context) (t : SourceToken) (r : Reading) (w : Compilation) → r.mode ≡ Recovery.Reads
    → Calm (stand r w) → fits grammar known (atom_of t) r.stack ≡ true → Lasts (atom_of t) (taken grammar known (atom_of t) r.stack)
    → (b : Bool) → some_end (taken grammar known (atom_of t) r.stack).actions ≡ b → Settled t.kind (took limits context t r w)
took_by limits context t r w reading c fit l false e = record {
  inside = λ _. took_asks limits context t r w e ∙ c.asks;
  hash = λ _. took_asks limits context t r w e ∙ c.asks;
  last = l.still;
  spaced = spaced_left grammar known language_is_decided (atom_of t) (work known (atom_of t) r.stack) r.stack fit c.spaced;
}
took_by limits context t r w reading c fit l true e =
    let n : Taken Action = taken grammar known (atom_of t) r.stack in
    let over : (reads r.mode && is_empty n.left) ≡ true = ap (λ (m : Recovery). reads m && is_empty n.left) reading ∙ l.at_end e in
    record {
      inside = λ inside. absurd (true≢false (sym over ∙ inside));
      hash = λ is_hash. absurd (true≢false (sym (l.semicolon e) ∙ hash_atom t is_hash));
      last = l.still;
      spaced = spaced_left grammar known language_is_decided (atom_of t) (work known (atom_of t) r.stack) r.stack fit c.spaced;
    }

bad_calm : (limits : Limits) (context : Context) (t : SourceToken) (r : Reading) (w : Compilation) → Calm (stand r w)
    → Calm (bad limits context t r w)
bad_calm limits context t r w c = record { asks = (messages_grow limits).asks.cut context t.place w ∙ c.asks; last = refl; spaced = tt }

judged_by : (limits : Limits) (context : Context) (t : SourceToken) (r : Reading) (w : Compilation) → r.mode ≡ Recovery.Reads
    → Calm (stand r w) → (b : Bool) → fits grammar known (atom_of t) r.stack ≡ b
    → Settled t.kind (if b then took limits context t r w else bad limits context t r w)
judged_by limits context t r w reading c true fit =
    took_by limits context t r w reading c fit (token_lasts (atom_of t) r.stack fit c.spaced c.last)
    (some_end (taken grammar known (atom_of t) r.stack).actions) refl
judged_by limits context t r w reading c false fit = settled t.kind (bad limits context t r w) (bad_calm limits context t r w c)

judged_settled : (limits : Limits) (context : Context) (t : SourceToken) (r : Reading) (w : Compilation) → r.mode ≡ Recovery.Reads
    → Calm (stand r w) → Settled t.kind (judged limits context t r w)
judged_settled limits context t r w reading c = judged_by limits context t r w reading c (fits grammar known (atom_of t) r.stack) refl

-- a token between two pieces
new_by : (limits : Limits) (context : Context) (t : SourceToken) (r : Reading) (w : Compilation) → r.mode ≡ Recovery.Reads
    → Calm (stand r w) → (b : Bool)
    → Settled t.kind (if b then stand (record r { mode = Recovery.Ended }) w else judged limits context t (piece_begun r) (work_begun w))
new_by limits context t r w reading c true =
    settled t.kind (stand (record r { mode = Recovery.Ended }) w) (record { asks = c.asks; last = c.last; spaced = c.spaced })
new_by limits context t r w reading c false = judged_settled limits context t (piece_begun r) (work_begun w) reading
    (record { asks = c.asks; last = refl; spaced = rule_is_spaced piece_rule })

read_settled : (limits : Limits) (context : Context) (t : SourceToken) (stack : List (Symbol Action)) (r : Reading) (w : Compilation)
    → r.mode ≡ Recovery.Reads → Calm (stand r w) → Settled t.kind (read_at limits context t stack r w)
read_settled limits context t [] r w reading c = new_by limits context t r w reading c (is_end t.kind)
read_settled limits context t (symbol ∷ symbols) r w reading c = judged_settled limits context t r w reading c

step_settled : (limits : Limits) (m : Recovery) (context : Context) (t : SourceToken) (r : Reading) (w : Compilation) → r.mode ≡ m
    → Calm (stand r w) → Settled t.kind (step_in limits m context t r w)
step_settled limits Recovery.Reads context t r w is c = read_settled limits context t r.stack r w is c
step_settled limits Recovery.Ended context t r w is c = settled t.kind (stand r w) c
step_settled limits Recovery.SkipsRoutine context t r w is c =
    settled t.kind (step_in limits Recovery.SkipsRoutine context t r w) (record { asks = c.asks; last = c.last; spaced = c.spaced })
step_settled limits Recovery.SkipsDirective context t r w is c =
    settled t.kind (step_in limits Recovery.SkipsDirective context t r w) (record { asks = c.asks; last = c.last; spaced = c.spaced })

unfit_settled : (limits : Limits) (m : Recovery) (context : Context) (t : SourceToken) (s : ReaderState) → s.reading.mode ≡ m → Calm s
    → Settled t.kind (unfit_in limits m context t s)
unfit_settled limits Recovery.Reads context t s is c =
    settled t.kind (bad limits context t s.reading s.work) (bad_calm limits context t s.reading s.work c)
unfit_settled limits Recovery.Ended context t s is c = step_settled limits s.reading.mode context t s.reading s.work refl c
unfit_settled limits Recovery.SkipsRoutine context t s is c = step_settled limits s.reading.mode context t s.reading s.work refl c
unfit_settled limits Recovery.SkipsDirective context t s is c = step_settled limits s.reading.mode context t s.reading s.work refl c

-- a token that is handed on
pub given_settled : (limits : Limits) (context : Context) (given : Given) (s : ReaderState) → Calm s
    → Settled (token_in given).kind (step_by limits context (Reads given) s)
given_settled limits context (Kept t) s c = step_settled limits s.reading.mode context t s.reading s.work refl c
given_settled limits context (Unfit t) s c = unfit_settled limits s.reading.mode context t s refl c
