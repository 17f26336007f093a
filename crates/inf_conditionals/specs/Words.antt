-- The words of conditional directives.
use Rattle.std.specs.Prelude.{true, false, Option, Some, None}
use Rattle.inf_conditionals.specs.declared.{pending.Awaits.Awaits, pending.Effect.Effect, words.ConditionalWord.ConditionalWord}
use Rattle.inf_syntax.specs.declared.words.Keyword.{Keyword}

-- the word of a conditional directive that a word of the grammar is, if it is one
abbrev pub word_of : Option Keyword → Option ConditionalWord
word_of (Some Keyword.Ifdef) = Some ConditionalWord.Ifdef
word_of (Some Keyword.Ifndef) = Some ConditionalWord.Ifndef
word_of (Some Keyword.Iftrue) = Some ConditionalWord.Iftrue
word_of (Some Keyword.Iffalse) = Some ConditionalWord.Iffalse
word_of (Some Keyword.Ifnot) = Some ConditionalWord.Ifnot
word_of (Some Keyword.Endif) = Some ConditionalWord.Endif
word_of _ = None

-- the thing for which a directive with this word waits next
abbrev pub awaits_of : ConditionalWord → Awaits
awaits_of ConditionalWord.Ifdef = Awaits.Name true
awaits_of ConditionalWord.Ifndef = Awaits.Name false
awaits_of ConditionalWord.Iftrue = Awaits.Condition true
awaits_of ConditionalWord.Iffalse = Awaits.Condition false
awaits_of ConditionalWord.Ifnot = Awaits.End Effect.Turns
awaits_of ConditionalWord.Endif = Awaits.End Effect.Closes
