-- The text of `CA__Pr`, in which a conditional directive asks for the name `action`: its tokens, those that the directive keeps, and their
-- events.
use Rattle.std.specs.Prelude.{◌≡◌, ℕ, Bool, true, false, List, [], ◌∷◌, ◌++◌, codes, Option, Some, None}
use Rattle.inf_characters.specs.declared.characters.CharSet.{CharSet}
use Rattle.inf_expressions.specs.declared.operators.Operand.{Operand}
use Rattle.inf_names.specs.Symbols.{declared_before}
use Rattle.inf_output.specs.{Output.Out, Veneer.name_of, declared.veneer.Veneer.Veneer}
use Rattle.inf_veneer.specs.Texts.{all_names, all_texts}
use Rattle.inf_machine.specs.Machine.{read}
use Rattle.inf_syntax.specs.declared.parts.names.TheConstants as Part
use Rattle.inf_grammar.specs.Language.{grammar, known}
use Rattle.inf_unit.specs.{Atoms.bad_atom, Tokens.SourceToken, Tokens.atom_of}
use Rattle.inf_conditionals.specs.{Judging.hash, Judging.judged, Open.Conditions, Open.no_conditions, declared.filtered.Filtered.Filtered}
use Rattle.inf_conditionals.specs.{declared.filtered.Forwarded.Forwarded, declared.filtered.Sign.Sign, declared.filtered.Site.Site}
use Rattle.inf_veneer_laws.specs.{Covered.AreCovered, Events.atoms_of, Events.routine_events, Gathered.Gathers, Gathered.text_tokens}
use Rattle.inf_veneer_laws.specs.{Laws.text_named, Message.message_names, Message.send_message, Running.Numbers, Sending.IsOuter}
use Rattle.inf_veneer_laws.specs.{Sources.on_side, Sources.sided_spelled}

abbrev pub MessageIsSpelled : Type 0
MessageIsSpelled = text_named (name_of Veneer.CallProperty) all_names all_texts ≡ Some (sided_spelled send_message)

-- The tokens that are handed to the grammar, each by its atom: one that does not fit comes as a bad token, and those of a conditional
-- directive do not come at all. The first token is between the pieces of a source, and no other one.

abbrev pub site : Bool → ℕ → Site
site is_between longest = record { is_between = is_between; is_quiet = false; longest = longest }

abbrev pub atoms_handed : Forwarded → SourceToken → List ℕ
atoms_handed Forwarded.Kept t = atom_of t ∷ []
atoms_handed Forwarded.Unfit t = bad_atom ∷ []
atoms_handed Forwarded.Condition t = []

abbrev pub sign_atoms : Option Sign → List ℕ
sign_atoms None = []
sign_atoms (Some s) = atoms_handed s.handed (hash s.place)

abbrev pub token_atoms : Option Forwarded → SourceToken → List ℕ
token_atoms None t = []
token_atoms (Some f) t = atoms_handed f t

abbrev pub filtered_atoms : Filtered → SourceToken → List ℕ
filtered_atoms f t = sign_atoms f.sign ++ token_atoms f.token t

abbrev pub kept_from : ℕ → Out → List SourceToken → Conditions → List ℕ
kept_from longest o [] c = []
kept_from longest o (t ∷ tokens) c =
    let b = judged (site false longest) o t c in filtered_atoms b.judged t ++ kept_from longest o tokens b.now

abbrev pub kept_of : ℕ → Out → List SourceToken → Conditions → List ℕ
kept_of longest o [] c = []
kept_of longest o (t ∷ tokens) c =
    let b = judged (site true longest) o t c in filtered_atoms b.judged t ++ kept_from longest o tokens b.now

-- With the names of any source before it, the text is read as one of two routines, by whether the name is declared among the first of
-- them.
abbrev pub MessageIsKept : Type 0
MessageIsKept =
    (set : CharSet) (limit longest declared : ℕ) (o : Out) (b : Bool) → declared_before (codes "action") declared o.names ≡ b →
    kept_of longest o (text_tokens set limit (sided_spelled send_message)) (record no_conditions { declared = declared })
    ≡ atoms_of (routine_events (on_side b send_message))

abbrev pub MessageIsRead : Type 0
MessageIsRead =
    (b : Bool) →
    let r = on_side b send_message in
    read grammar known (Part.PIECE ∷ []) (atoms_of (routine_events r)) ≡ Some (record { events = routine_events r; left = [] })

abbrev pub MessageIsGathered : Type 0
MessageIsGathered =
    (set : CharSet) (limit : ℕ) (numbers : Numbers) (action : Operand) (b : Bool) → IsOuter (Some action) →
    Gathers set limit (message_names numbers action) (on_side b send_message).body

abbrev pub MessageIsCovered : Type 0
MessageIsCovered =
    (numbers : Numbers) (action : Operand) (b : Bool) → AreCovered (message_names numbers action) (on_side b send_message).body
