-- The results of tokens. Between directives a conditional directive comes as any other does, with a `#` before it or not; inside a
-- directive it has a `#`, and may come at any token. Its own tokens are not kept; those of a condition are read by the grammar. One that
-- does not fit is the bad token of the directive around it. In a side that is left out only the words of conditionals are looked at.
use Rattle.std.specs.Prelude.{ℕ, codes, max, ◌&&◌, ◌||◌, ◌==◌, List, [], ◌∷◌, Bool, true, false, not, if◌then◌else◌, Option, Some, None}
use Rattle.std.specs.Prelude.{is_none, unwrap_or}
use Rattle.inf_scanner.specs.{declared.tokens.Mark.Mark, declared.tokens.Place.Place, declared.tokens.TokenKind.TokenKind}
use Rattle.inf_machine.specs.Machine.{fits}
use Rattle.inf_grammar.specs.Language.{grammar, known}
use Rattle.inf_names.specs.Symbols.{declared_before}
use Rattle.inf_output.specs.Output.{Out}
use Rattle.inf_unit.specs.{Tokens.SourceToken, Tokens.atom_of, Tokens.is_end, Tokens.is_mark, Tokens.keyword, Units.outer_tokens}
use Rattle.inf_conditionals.specs.{Said.Said, Said.told_by, Said.too_much, Words.awaits_of, Words.word_of}
use Rattle.inf_conditionals.specs.declared.{condition.Verdict.Verdict, filtered.Filtered.Filtered, filtered.Forwarded.Forwarded}
use Rattle.inf_conditionals.specs.declared.{filtered.Sign.Sign, filtered.Site.Site, open.LeftOut.LeftOut, pending.Awaits.Awaits}
use Rattle.inf_conditionals.specs.declared.{pending.Effect.Effect, pending.Pending.Pending, words.ConditionalWord.ConditionalWord}
use Rattle.inf_conditionals.specs.Condition.{Condition, condition_begun, condition_took, is_whole, verdict_of}
use Rattle.inf_conditionals.specs.Open.{Conditions, closed, ended_by, ends_at, is_none_open, is_second, latest, levels_behind, opened}
use Rattle.inf_conditionals.specs.Open.{turned}

-- The conditionals behind a token, and its result.
pub record Behind : Type 0 where
  pub now : Conditions
  pub judged : Filtered

abbrev pub none_handed : Filtered
none_handed = record { sign = None; token = None; unmatched = None; ended = None }

-- the result of a token that belongs to a conditional
abbrev pub passed : Conditions → Behind
passed c = record { now = c; judged = none_handed }

-- the result of a token that is kept
abbrev pub kept : Conditions → Behind
kept c = record { now = c; judged = record none_handed { token = Some Forwarded.Kept } }

-- the result of a token that a condition takes
abbrev pub taken : Conditions → Behind
taken c = record { now = c; judged = record none_handed { token = Some Forwarded.Condition } }

-- the conditionals where the conditional directives that are being read are given up
abbrev pub given_up : Conditions → Conditions
given_up c = record c { pending = []; conditions = [] }

-- the result of a token that does not fit the conditional directives that are being read
abbrev pub unfit : Conditions → Behind
unfit c = record { now = given_up c; judged = record none_handed { token = Some Forwarded.Unfit } }

-- Definitions of the end of a conditional directive

-- the result where the directive has no conditional to end or to turn; among tokens that are passed over this is not reported
abbrev pub unmatched : Bool → Place → Conditions → Behind
unmatched is_quiet place c = record { now = c; judged = record none_handed { unmatched = if is_quiet then None else Some place } }

-- The second side of the latest conditional, whose first side was kept, is left out.
abbrev pub turning : Bool → Place → Conditions → Behind
turning is_quiet place c =
    if is_second (latest c) then unmatched is_quiet place c
    else passed (record (turned c) { left_out = Some (record { is_inner = not (is_none_open c.inner); levels = 0 }) })

abbrev pub closing : Bool → Place → Conditions → Behind
closing is_quiet place c = if is_none_open (latest c) then unmatched is_quiet place c else passed (closed c)

abbrev pub effected_by : Effect → Bool → Pending → Conditions → Behind
effected_by (Effect.Opens is_kept) is_quiet p c = passed (opened is_kept p c)
effected_by Effect.Turns is_quiet p c = turning is_quiet p.place c
effected_by Effect.Closes is_quiet p c = closing is_quiet p.place c
effected_by Effect.Nothing is_quiet p c = passed c

-- the result where a directive ends: it is a unit that has ended, but among tokens that are passed over
abbrev pub effected : Effect → Bool → Pending → Conditions → Behind
effected e is_quiet p c =
    let b = effected_by e is_quiet p c in
    record b { judged = record b.judged { ended = if is_quiet then None else Some p.place } }

-- Definitions of the tokens of a conditional directive

-- the conditionals with one more directive that is being read, inside the others
abbrev pub awaiting : Place → Bool → Awaits → Conditions → Conditions
awaiting place is_inner a c = record c { pending = record { place = place; is_inner = is_inner; awaits = a } ∷ c.pending }

-- the conditionals with one more directive that is being read and has a condition
abbrev pub asking : Place → Bool → Bool → Condition → Conditions → Conditions
asking place is_inner wanted k c = record (awaiting place is_inner (Awaits.Condition wanted) c) { conditions = k ∷ c.conditions }

-- the result where a directive with a condition begins: its word is its first token for the grammar
abbrev pub asked_first : Bool → SourceToken → Bool → Conditions → Behind
asked_first wanted word is_inner c =
    if fits grammar known (atom_of word) condition_begun.stack
    then passed (asking word.place is_inner wanted (condition_took word condition_begun) c) else unfit c

abbrev pub begun_by : Awaits → SourceToken → Bool → Conditions → Behind
begun_by (Awaits.Condition wanted) t is_inner c = asked_first wanted t is_inner c
begun_by a t is_inner c = passed (awaiting t.place is_inner a c)

-- the result where a directive begins with a word, at a place, inside another or not
abbrev pub begun : ConditionalWord → SourceToken → Place → Bool → Conditions → Behind
begun word t place is_inner c = begun_by (awaits_of word) (record t { place = place }) is_inner c

-- the result behind a `#` at the front of a piece: another directive than a conditional one is kept, with its `#`
abbrev pub behind_front : Option ConditionalWord → SourceToken → Pending → Conditions → Behind
behind_front None t p c = record {
  now = c;
  judged = record none_handed { sign = Some (record { place = p.place; handed = Forwarded.Kept }); token = Some Forwarded.Kept };
}
behind_front (Some word) t p c = begun word t p.place p.is_inner c

-- Tells whether the first side is kept: where `if_declared`, the name of these bytes has to be declared by the directives before the one
-- at hand, and else it must not be.
abbrev pub is_kept : Bool → Out → ℕ → List ℕ → Bool
is_kept if_declared o declared bytes =
    if if_declared then declared_before bytes declared o.names else not (declared_before bytes declared o.names)

abbrev pub named : TokenKind → List ℕ → Bool → Out → Pending → Conditions → Behind
named TokenKind.Name bytes if_declared o p c =
    passed (awaiting p.place p.is_inner (Awaits.End (Effect.Opens (is_kept if_declared o c.declared bytes))) c)
named _ bytes if_declared o p c = unfit c

-- Definitions of a token of a condition

-- the conditionals with a message about a condition; among tokens that are passed over there is none
abbrev pub saying : Bool → Option Said → Conditions → Conditions
saying is_quiet said c = record c { said = if is_quiet then None else said }

-- the conditionals with the tokens of this condition's expression counted
abbrev pub tokens_counted : Bool → Condition → Conditions → Conditions
tokens_counted is_quiet k c = record c { most_tokens = if is_quiet then c.most_tokens else max c.most_tokens (outer_tokens k.unit) }

-- the result where the condition is whole, by the verdict on it
abbrev pub decided : Verdict → Bool → Bool → Condition → Pending → Conditions → Behind
decided v wanted is_quiet k p c =
    effected (Effect.Opens (if wanted then v.is_true else not v.is_true)) is_quiet p (saying is_quiet (told_by p.place k v.finding) c)

-- the result where the directive goes on behind a token of its condition
abbrev pub asked_on : Bool → Site → SourceToken → Condition → Pending → Conditions → Behind
asked_on wanted site t k p c =
    taken (asking p.place p.is_inner wanted k (saying site.is_quiet (too_much site.longest t k) (tokens_counted site.is_quiet k c)))

-- the result behind a token that the condition took, which may be its last
abbrev pub went_on : Bool → Site → Out → SourceToken → Condition → Pending → Conditions → Behind
went_on wanted site o t k p c =
    if is_whole k then decided (verdict_of c.declared o k) wanted site.is_quiet k p c else asked_on wanted site t k p c

abbrev pub offered_condition : Bool → Site → Out → SourceToken → Condition → Pending → Conditions → Behind
offered_condition wanted site o t k p c =
    if fits grammar known (atom_of t) k.stack
    then went_on wanted site o t (condition_took t k) p c else unfit c

-- the result of a token for the innermost condition, which is that of the directive
abbrev pub asked : List Condition → Bool → Site → Out → SourceToken → Pending → Conditions → Behind
asked [] wanted site o t p c = unfit c
asked (k ∷ conditions) wanted site o t p c = offered_condition wanted site o t k p (record c { conditions = conditions })

-- the result of a token for a directive that waits for this; the conditionals are those without it
abbrev pub awaited : Awaits → Site → Out → SourceToken → Pending → Conditions → Behind
awaited Awaits.Word site o t p c = behind_front (word_of (keyword t)) t p c
awaited (Awaits.Name if_declared) site o t p c = named t.kind t.bytes if_declared o p c
awaited (Awaits.Condition wanted) site o t p c = asked c.conditions wanted site o t p c
awaited (Awaits.End e) site o t p c = if is_mark Mark.Semicolon t.kind then effected e site.is_quiet p c else unfit c

-- Definitions of a token of a kept side

-- the conditionals with a `#` that is held back
abbrev pub held : Bool → Place → Conditions → Conditions
held true place c = awaiting place false Awaits.Word c
held false place c = record c { sign = Some place }

-- the result of a token at the front of a piece
abbrev pub at_front : Option ConditionalWord → SourceToken → Conditions → Behind
at_front None t c = kept c
at_front (Some word) t c = begun word t t.place false c

-- the result of a token where no side is left out and no `#` is held back, at the front of a piece or not
abbrev pub offered_to : List Pending → Bool → Site → Out → SourceToken → Conditions → Behind
offered_to [] is_front site o t c = if is_front then at_front (word_of (keyword t)) t c else kept c
offered_to (p ∷ pending) is_front site o t c = awaited p.awaits site o t p (record c { pending = pending })

abbrev pub offered : Bool → Site → Out → SourceToken → Conditions → Behind
offered is_front site o t c =
    if is_mark Mark.Hash t.kind then passed (held is_front t.place c) else offered_to c.pending is_front site o t c

abbrev pub is_none_pending : List Pending → Bool
is_none_pending [] = true
is_none_pending (p ∷ pending) = false

-- a `#` at a place, as a token
abbrev pub hash : Place → SourceToken
hash place = record { kind = TokenKind.Mark Mark.Hash; bytes = codes "#"; place = place; is_class = false }

-- The condition of the innermost directive takes a `#` that fits, and goes on behind it: no directive ends with a `#`.
abbrev pub sign_asked : List Condition → Bool → Place → Site → Pending → Conditions → Behind
sign_asked [] wanted place site p c = unfit c
sign_asked (k ∷ conditions) wanted place site p c =
    let rest = record c { conditions = conditions } in
    if fits grammar known (atom_of (hash place)) k.stack
    then asked_on wanted site (hash place) (condition_took (hash place) k) p rest else unfit rest

-- A `#` that was held back inside a directive, and has no word of a conditional behind it, is kept where no conditional directive is
-- being read. It may belong to the condition of the innermost one; it fits no other part of one.
abbrev pub sign_awaited : Awaits → Place → Site → Pending → Conditions → Behind
sign_awaited (Awaits.Condition wanted) place site p c = sign_asked c.conditions wanted place site p c
sign_awaited _ place site p c = unfit c

abbrev pub sign_offered : List Pending → Place → Site → Conditions → Behind
sign_offered [] place site c = kept (given_up c)
sign_offered (p ∷ pending) place site c = sign_awaited p.awaits place site p (record c { pending = pending })

abbrev pub sign_handed : Place → Option Forwarded → Option Sign
sign_handed place None = None
sign_handed place (Some h) = Some (record { place = place; handed = h })

-- A token behind a `#` that was held back
abbrev pub behind_sign : Option ConditionalWord → Place → Site → Out → SourceToken → Conditions → Behind
behind_sign (Some word) place site o t c = begun word t place true (record c { sign = None })
behind_sign None place site o t c =
    let s = sign_offered c.pending place site (record c { sign = None }) in let b = offered false site o t s.now in
    record b { judged = record b.judged { sign = sign_handed place s.judged.token } }

-- Definitions of a token of a side that is left out

-- The conditionals behind a word of a conditional. One that ends the side begins a directive, which has no effect of its own any more.
abbrev pub word_passed : ConditionalWord → Place → LeftOut → Conditions → Conditions
word_passed word place side c =
    if (side.levels == 0) && ends_at word (is_second (latest c))
    then awaiting (unwrap_or c.sign place) false (Awaits.End Effect.Nothing) (record (ended_by word c) { left_out = None; sign = None })
    else record c { left_out = Some (record side { levels = levels_behind word side.levels }); sign = None }

abbrev pub passed_by : Option ConditionalWord → SourceToken → LeftOut → Conditions → Conditions
passed_by None t side c = record c { sign = if is_mark Mark.Hash t.kind then Some t.place else None }
passed_by (Some word) t side c = word_passed word t.place side c

-- the result of a token in a side that is left out: at the end of the file nothing is left out any more
abbrev pub in_side : Site → Out → SourceToken → LeftOut → Conditions → Behind
in_side site o t side c =
    if is_end t.kind then offered false site o t (record c { left_out = None; sign = None })
    else passed (passed_by (word_of (keyword t)) t side c)

-- Definitions of any token

abbrev pub judged_by : Option LeftOut → Option Place → Site → Out → SourceToken → Conditions → Behind
judged_by (Some side) sign site o t c = in_side site o t side c
judged_by None (Some place) site o t c = behind_sign (word_of (keyword t)) place site o t c
judged_by None None site o t c = offered (site.is_between && is_none_pending c.pending) site o t c

abbrev pub judged : Site → Out → SourceToken → Conditions → Behind
judged site o t c = judged_by c.left_out c.sign site o t c

-- Definitions of the places where a part of the reading may end

-- Tells whether the word of this directive has acted already.
abbrev pub has_acted : Awaits → Bool
has_acted (Awaits.End Effect.Nothing) = true
has_acted _ = false

-- Tells whether the word that was taken last ended a side.
abbrev pub ends_side : List Pending → Bool
ends_side [] = false
ends_side (p ∷ pending) = has_acted p.awaits

abbrev pub is_behind_side : Conditions → Bool
is_behind_side c = is_none c.sign && ends_side c.pending

-- Tells whether a part of the reading may end: behind a whole directive, and behind the side that it leaves out.
abbrev pub may_part : Conditions → Bool
may_part c = (is_none_pending c.pending && is_none c.left_out) || is_behind_side c
