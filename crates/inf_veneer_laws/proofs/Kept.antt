-- The text of `CA__Pr`: its spelling, its tokens and events, and its expressions, as evaluation shows.
use Rattle.std.proofs.Common.{◌≡◌, ℕ, List, [], ◌∷◌, Bool, true, false, Some, refl, ap, sym, ◌∙◌, inl, lit≤, ◌++◌, codes, drop, take}
use Rattle.std.proofs.lemmas.List.{take-append-drop}
use Rattle.std.specs.Fmt.{digits}
use Rattle.inf_characters.specs.declared.characters.CharSet.{CharSet}
use Rattle.inf_expressions.specs.declared.operators.Operand.{Operand}
use Rattle.inf_veneer.specs.Texts.{all_names, all_texts}
use Rattle.inf_names.specs.Symbols.{declared_before}
use Rattle.inf_output.specs.Output.{Out}
use Rattle.inf_syntax.specs.{Atoms.keyword_of, Words.keywords}
use Rattle.inf_unit.specs.{Tokens.SourceToken, Units.next_place, Units.order}
use Rattle.inf_grammar.specs.Language.{grammar, known}
use Rattle.inf_conditionals.specs.{Open.Conditions, Open.no_conditions, declared.pending.Awaits.Awaits, declared.pending.Effect.Effect}
use Rattle.inf_veneer_laws.specs.{Events.atoms_of, Events.routine_events, Gathered.Gathers, Gathered.text_tokens, Message.message_names}
use Rattle.inf_veneer_laws.specs.{Message.send_message, Running.Numbers, Sending.IsOuter, Sources.on_side, Sources.sided_spelled}
use Rattle.inf_veneer_laws.specs.Kept.{MessageIsCovered, MessageIsGathered, MessageIsKept, MessageIsRead, MessageIsSpelled, kept_from}
use Rattle.inf_veneer_laws.specs.Kept.{kept_of}

pub message_is_spelled : MessageIsSpelled
unfolding all_names all_texts digits
message_is_spelled = refl

pub message_is_read : MessageIsRead
unfolding grammar known
message_is_read true = refl
message_is_read false = refl

-- The expressions, of which the name `action` is one alone.

pub message_is_covered : MessageIsCovered
message_is_covered numbers action true = (
  (
    (tt, tt, ((refl, tt, tt))),
    (
      (((tt, inl (lit≤ tt)), ((refl, lit≤ tt), tt, tt), tt), tt),
      ((((tt, inl (lit≤ tt)), ((refl, lit≤ tt), tt, tt), tt), tt), ((tt, tt, tt), ((tt, tt, tt), ((tt, tt, tt), (tt, tt, tt))))),
    ),
  ),
  ((tt, tt, tt), ((tt, tt, ((refl, lit≤ tt), tt, (tt, tt, (tt, tt, (tt, tt, (tt, tt, tt)))))), ((tt, tt, tt), ((tt, tt, tt), tt)))),
)
message_is_covered numbers action false = (
  (
    (tt, tt, ((refl, tt, tt))),
    (
      (((tt, inl (lit≤ tt)), ((refl, lit≤ tt), tt, tt), tt), tt),
      ((((tt, inl (lit≤ tt)), ((refl, lit≤ tt), tt, tt), tt), tt), ((tt, tt, tt), ((tt, tt, tt), ((tt, tt, tt), (tt, tt, tt))))),
    ),
  ),
  ((tt, tt, ((refl, lit≤ tt), tt, (tt, tt, (tt, tt, (tt, tt, (tt, tt, tt)))))), ((tt, tt, tt), ((tt, tt, tt), tt))),
)

abbrev before_is_gathered : CharSet → Type 0
before_is_gathered set =
    (limit : ℕ) (numbers : Numbers) (action : Operand) → Gathers set limit (message_names numbers action) send_message.before

before_gathered : (set : CharSet) → before_is_gathered set
unfolding digits next_place order
before_gathered CharSet.Ascii limit numbers action = (refl, ((refl, refl), ((refl, refl), (refl, (refl, (refl, refl))))))
before_gathered CharSet.Latin1 limit numbers action = (refl, ((refl, refl), ((refl, refl), (refl, (refl, (refl, refl))))))

behind_gathered : (set : CharSet) (limit : ℕ) (numbers : Numbers) (action : Operand) →
    Gathers set limit (message_names numbers action) send_message.behind
unfolding digits next_place order
behind_gathered CharSet.Ascii limit numbers action = (refl, (refl, (refl, refl)))
behind_gathered CharSet.Latin1 limit numbers action = (refl, (refl, (refl, refl)))

side_gathered : (set : CharSet) (limit : ℕ) (numbers : Numbers) (action : Operand) → IsOuter (Some action) →
    Gathers set limit (message_names numbers action) send_message.side
unfolding digits next_place order
side_gathered CharSet.Ascii limit numbers (Operand.Known n) outer = refl
side_gathered CharSet.Ascii limit numbers (Operand.Variable v) outer = refl
side_gathered CharSet.Ascii limit numbers (Operand.Later t) outer = refl
side_gathered CharSet.Ascii limit numbers (Operand.Function f) outer = absurd outer
side_gathered CharSet.Ascii limit numbers Operand.Unknown outer = absurd outer
side_gathered CharSet.Latin1 limit numbers (Operand.Known n) outer = refl
side_gathered CharSet.Latin1 limit numbers (Operand.Variable v) outer = refl
side_gathered CharSet.Latin1 limit numbers (Operand.Later t) outer = refl
side_gathered CharSet.Latin1 limit numbers (Operand.Function f) outer = absurd outer
side_gathered CharSet.Latin1 limit numbers Operand.Unknown outer = absurd outer

pub message_is_gathered : MessageIsGathered
message_is_gathered set limit numbers action true outer = (
  before_gathered set limit numbers action,
  (side_gathered set limit numbers action outer, behind_gathered set limit numbers action),
)
message_is_gathered set limit numbers action false outer =
    (before_gathered set limit numbers action, behind_gathered set limit numbers action)

-- The tokens: the directive asks for its name with the 65th one, behind 62 that are kept.

abbrev first_kept : List ℕ
first_kept = take 62 (atoms_of (routine_events (on_side true send_message)))

abbrev waiting : ℕ → Bool → Conditions
waiting declared d = record no_conditions {
  declared = declared;
  pending = record { place = record { file = 0; line = 1 }; is_inner = true; awaits = Awaits.End (Effect.Opens d) } ∷ [];
}

abbrev all_tokens : CharSet → ℕ → List SourceToken
all_tokens set limit = text_tokens set limit (sided_spelled send_message)

up_to_name : (set : CharSet) (limit longest declared : ℕ) (o : Out) (rest : List SourceToken) →
    kept_of longest o (take 65 (all_tokens set limit) ++ rest) (record no_conditions { declared = declared })
    ≡ first_kept ++ kept_from longest o rest (waiting declared (declared_before (codes "action") declared o.names))
unfolding digits keyword_of keywords
up_to_name CharSet.Ascii limit longest declared o rest = refl
up_to_name CharSet.Latin1 limit longest declared o rest = refl

behind_name : (set : CharSet) (limit longest declared : ℕ) (o : Out) (b : Bool) →
    first_kept ++ kept_from longest o (drop 65 (all_tokens set limit)) (waiting declared b)
    ≡ atoms_of (routine_events (on_side b send_message))
unfolding digits keyword_of keywords
behind_name CharSet.Ascii limit longest declared o true = refl
behind_name CharSet.Ascii limit longest declared o false = refl
behind_name CharSet.Latin1 limit longest declared o true = refl
behind_name CharSet.Latin1 limit longest declared o false = refl

pub message_is_kept : MessageIsKept
message_is_kept set limit longest declared o b e =
    let rest = drop 65 (all_tokens set limit) in
    ap (λ (tokens : List SourceToken). kept_of longest o tokens (record no_conditions { declared = declared }))
    (sym (take-append-drop 65 (all_tokens set limit)))
    ∙ up_to_name set limit longest declared o rest
    ∙ ap (λ (d : Bool). first_kept ++ kept_from longest o rest (waiting declared d)) e
    ∙ behind_name set limit longest declared o b
