-- Roles of the actions of the grammar.
use Rattle.std.specs.Prelude.{Bool, true, false}
use Rattle.inf_expressions.specs.{declared.operators.Binary.Binary, declared.operators.Direction.Direction}
use Rattle.inf_expressions.specs.{declared.operators.Operation.Operation, declared.operators.PropertyPart.PropertyPart}
use Rattle.inf_expressions.specs.{declared.operators.Single.Single, declared.operators.Test.Test, declared.operators.Unary.Unary}
use Rattle.inf_syntax.specs.declared.actions.Action.{Action}
use Rattle.inf_unit.specs.{declared.roles.Ending.Ending, declared.roles.Note.Note, declared.roles.Opening.Opening, declared.roles.Role.Role}
use Rattle.inf_unit.specs.{declared.steps.GatherStep.GatherStep}

-- An operator of one expression, in front of it or behind it, and one of two.
abbrev pub prefix : Unary → Role
prefix op = Role.Gather (GatherStep.Prefix op)

abbrev pub suffix : Unary → Role
suffix op = Role.Gather (GatherStep.Suffix op)

abbrev pub two : Binary → Role
two op = Role.Gather (GatherStep.Two op)

-- An operation of two expressions, and the reading of a part of a property.
abbrev pub operation : Operation → Role
operation o = two (Binary.Operation o)

abbrev pub property : PropertyPart → Role
property p = two (Binary.Property p)

-- A test that has to hold, and one that has to fail.
abbrev pub test : Test → Role
test t = Role.Gather (GatherStep.Test (Binary.Test t))

abbrev pub failing : Test → Role
failing t = Role.Gather (GatherStep.Test (Binary.Fails t))

-- Tells whether a note makes sure that an expression is open, whose tokens then count.
abbrev pub makes_sure : Note → Bool
makes_sure Note.OuterSure = true
makes_sure Note.OuterWord = true
makes_sure _ = false

-- Tells whether a note is that of a text that is printed.
abbrev pub is_text : Note → Bool
is_text Note.PrintText = true
is_text _ = false

-- Tells whether a note is that of the end of an outermost expression.
abbrev pub ends_outer : Note → Bool
ends_outer Note.OuterEnd = true
ends_outer _ = false

-- Tells whether a note is that of the end of a token of a line of grammar.
abbrev pub ends_token : Note → Bool
ends_token Note.LineToken = true
ends_token _ = false

-- Tells whether a note is that of a whole value of a statement that prints, or of an attribute that one gives or takes.
abbrev pub ends_value : Note → Bool
ends_value Note.PrintValue = true
ends_value Note.PrintRuled = true
ends_value Note.Set = true
ends_value Note.Clear = true
ends_value _ = false

-- Tells whether a note is that of a further word of a verb.
abbrev pub is_verb_word : Note → Bool
is_verb_word Note.VerbWord = true
is_verb_word _ = false

-- Tells whether a note is that of an arrow before the name of an object.
abbrev pub is_arrow : Note → Bool
is_arrow Note.Arrow = true
is_arrow _ = false

-- Role of an action.
abbrev pub role_of : Action → Role
role_of Action.Name = Role.Gather GatherStep.Leaf
role_of Action.Number = Role.Gather GatherStep.Leaf
role_of Action.Char = Role.Gather GatherStep.Leaf
role_of Action.Word = Role.Gather GatherStep.Leaf
role_of Action.Text = Role.Gather GatherStep.Leaf
role_of Action.Action = Role.Gather GatherStep.Action
role_of Action.System = Role.Gather GatherStep.System
role_of Action.Negate = prefix Unary.Negate
role_of Action.BitNot = prefix (Unary.Single Single.Complement)
role_of Action.Not = prefix Unary.Not
role_of Action.IncrementBefore = prefix (Unary.Before Direction.Up)
role_of Action.DecrementBefore = prefix (Unary.Before Direction.Down)
role_of Action.IncrementAfter = suffix (Unary.Behind Direction.Up)
role_of Action.DecrementAfter = suffix (Unary.Behind Direction.Down)
role_of Action.Plus = operation Operation.Add
role_of Action.Minus = operation Operation.Subtract
role_of Action.Times = operation Operation.Multiply
role_of Action.Divide = operation Operation.Divide
role_of Action.Remainder = operation Operation.Remainder
role_of Action.BitAnd = operation Operation.BitAnd
role_of Action.BitOr = operation Operation.BitOr
role_of Action.ByteEntry = operation Operation.Byte
role_of Action.WordEntry = operation Operation.Word
role_of Action.Member = property PropertyPart.Value
role_of Action.MemberAddress = property PropertyPart.Address
role_of Action.MemberLength = property PropertyPart.Length
role_of Action.And = two Binary.And
role_of Action.Or = two Binary.Or
role_of Action.Assign = two Binary.Assign
role_of Action.To = two Binary.To
role_of Action.Comma = Role.Gather GatherStep.Comma
role_of Action.Count = Role.Gather GatherStep.List
role_of Action.Part = Role.Gather GatherStep.Part
role_of Action.Call = Role.Gather GatherStep.Call
role_of Action.Equal = test Test.Equal
role_of Action.Unequal = failing Test.Equal
role_of Action.Less = test Test.Less
role_of Action.Greater = test Test.Greater
role_of Action.LessOrEqual = test Test.AtMost
role_of Action.GreaterOrEqual = test Test.AtLeast
role_of Action.Has = test Test.Has
role_of Action.HasNot = failing Test.Has
role_of Action.In = test Test.In
role_of Action.NotIn = failing Test.In
role_of Action.OfClass = test Test.OfClass
role_of Action.Provides = test Test.Provides
role_of Action.Bracket = Role.Gather GatherStep.Bracket
role_of Action.Bracketed = Role.Gather GatherStep.Bracketed
role_of Action.Begin = Role.Note Note.Begin
role_of Action.Local = Role.Note Note.Local
role_of Action.Arrow = Role.Note Note.Arrow
role_of Action.Semicolon = Role.Note Note.Semicolon
role_of Action.Outer = Role.Note (Note.Outer true)
role_of Action.OuterMaybe = Role.Note (Note.Outer false)
role_of Action.OuterWord = Role.Note Note.OuterWord
role_of Action.OuterSure = Role.Note Note.OuterSure
role_of Action.OuterEnd = Role.Note Note.OuterEnd
role_of Action.PrintRule = Role.Note Note.PrintRuled
role_of Action.Hold = Role.Note Note.Hold
role_of Action.PrintText = Role.Note Note.PrintText
role_of Action.PrintValue = Role.Note Note.PrintValue
role_of Action.Rule = Role.Note Note.Rule
role_of Action.Set = Role.Note Note.Set
role_of Action.Clear = Role.Note Note.Clear
role_of Action.Default = Role.Note Note.Default
role_of Action.AsmText = Role.Note Note.AsmText
role_of Action.Store = Role.Note Note.Store
role_of Action.Branch = Role.Note (Note.Branch true)
role_of Action.BranchNot = Role.Note (Note.Branch false)
role_of Action.Token = Role.Note Note.LineToken
role_of Action.VerbWord = Role.Note Note.VerbWord
role_of Action.EndLocals = Role.End Ending.Locals
role_of Action.EndEmbedded = Role.End Ending.Embedded
role_of Action.EndRoutine = Role.End Ending.Routine
role_of Action.EndDirective = Role.End Ending.Directive
role_of Action.EndHeader = Role.End Ending.Header
role_of Action.EndBody = Role.End Ending.Body
role_of Action.EndClass = Role.End Ending.Class
role_of Action.EndAttribute = Role.End Ending.Attribute
role_of Action.EndProperty = Role.End Ending.Property
role_of Action.EndValue = Role.End Ending.Value
role_of Action.EndLine = Role.End Ending.Line
role_of Action.EndText = Role.End Ending.Abbreviation
role_of Action.EndEntry = Role.End Ending.Entry
role_of Action.EndAlone = Role.End Ending.Alone
role_of Action.EndStatement = Role.End Ending.Statement
role_of Action.EndIf = Role.End Ending.Condition
role_of Action.EndWhile = Role.End Ending.Condition
role_of Action.EndUntil = Role.End Ending.Condition
role_of Action.EndForTest = Role.End Ending.Condition
role_of Action.EndForStart = Role.End Ending.Start
role_of Action.EndForStep = Role.End Ending.Step
role_of Action.EndObjectloop = Role.End Ending.Loop
role_of Action.EndSwitch = Role.End Ending.Switched
role_of Action.EndCase = Role.End Ending.Case
role_of Action.OpenIf = Role.Open Opening.If
role_of Action.OpenWhile = Role.Open Opening.While
role_of Action.OpenDo = Role.Open Opening.Do
role_of Action.OpenFor = Role.Open Opening.For
role_of Action.OpenObjectloop = Role.Open Opening.Objectloop
role_of Action.OpenSwitch = Role.Open Opening.Switch
role_of Action.Else = Role.Join
role_of Action.Until = Role.Join
role_of Action.ForTop = Role.Join
role_of Action.Loop = Role.Join
role_of Action.Close = Role.Close
role_of Action.Deeper = Role.Deeper
role_of Action.MaybeDeeper = Role.MaybeDeeper
role_of Action.Routine = Role.Nothing
