-- Directives that are one unit, and their requests to the reading.
use Rattle.std.specs.Prelude.{ℕ, List, [], ◌∷◌, codes, Bool, true, false, if◌then◌else◌, Option, Some, None}
use Rattle.std.specs.Str.{str_eq_ignore_ascii_case}
use Rattle.inf_characters.specs.declared.characters.CharSet.{CharSet}
use Rattle.inf_scanner.specs.declared.tokens.Place.{Place}
use Rattle.inf_syntax.specs.declared.words.Keyword.{Keyword}
use Rattle.inf_report.specs.declared.messages.Kind.{Kind}
use Rattle.inf_names.specs.Spellings.{Name}
use Rattle.inf_unit.specs.{declared.directives.Directive.Directive, declared.directives.Request.Request as CodeRequest}

-- Request of a finished directive to the reading: to read the file of a name, for a directive that begins at a place; to end; or to
-- read the sources by a character set.
pub data Request : Type 0 where
  Nothing : Request
  Include : (text : List ℕ) (unit : Place) → Request
  End : Request
  Characters : (set : CharSet) → Request

-- Tells whether there is a request.
abbrev pub asks : Request → Bool
asks Nothing = false
asks _ = true

-- Meaning of a request of the code.
abbrev pub asked : CodeRequest → Request
asked CodeRequest.Nothing = Nothing
asked (CodeRequest.Include text unit) = Include text.items unit
asked CodeRequest.End = End
asked (CodeRequest.Characters set) = Characters set

-- Directive that begins with a word.
abbrev pub directive_of : Option Keyword → Directive
directive_of (Some Keyword.Include) = Directive.Include
directive_of (Some Keyword.Message) = Directive.Message
directive_of (Some Keyword.End) = Directive.End
directive_of (Some Keyword.Constant) = Directive.Constant
directive_of (Some Keyword.Replace) = Directive.Replace
directive_of (Some Keyword.Stub) = Directive.Stub
directive_of (Some Keyword.Default) = Directive.Default
directive_of (Some Keyword.Attribute) = Directive.Attribute
directive_of (Some Keyword.Property) = Directive.Property
directive_of (Some Keyword.Global) = Directive.Global
directive_of (Some Keyword.FakeAction) = Directive.FakeAction
directive_of (Some Keyword.Switches) = Directive.Switches
directive_of (Some Keyword.Lowstring) = Directive.Lowstring
directive_of (Some Keyword.Release) = Directive.Release
directive_of (Some Keyword.Serial) = Directive.Serial
directive_of _ = Directive.SystemFile

-- the weight of a message by `word`, which comes behind `Message`
abbrev pub weight_of_word : List ℕ → Kind
weight_of_word word = if str_eq_ignore_ascii_case word (codes "error") then Kind.Error else
    if str_eq_ignore_ascii_case word (codes "warning") then Kind.Warning else Kind.Fatal

-- the weight of a message: by the first of `names`, the word behind `Message`, or none without a word
abbrev pub weight_of : List Name → Option Kind
weight_of [] = None
weight_of (n ∷ names) = Some (weight_of_word n.bytes)
