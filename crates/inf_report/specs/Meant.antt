-- The messages that the code's messages stand for.
use Rattle.inf_report.specs.{OwnWords.Words, declared.messages.Location.Location as CodeLocation}
use Rattle.inf_report.specs.{declared.messages.Message.Message as CodeMessage, declared.messages.Told.Told as CodeTold}
use Rattle.inf_report.specs.{declared.own_words.OwnWords.OwnWords}
use Rattle.inf_report.specs.Messages.{Location, Told, Bytes, Quote, Text, End, Message, Syntax, IllegalCharacter, UnclosedQuote}
use Rattle.inf_report.specs.Messages.{NumberOutOfRange, UnknownEscape, LongName, NoZscii, Declared, SystemName, WrongKind, Undeclared}
use Rattle.inf_report.specs.Messages.{UsedBefore, NotConstant, ConstantOutOfRange, TooManyArguments, WrongOpcode, LabelMissing, LabelTwice}
use Rattle.inf_report.specs.Messages.{NothingToLeave, BranchTooFar, TooMany, MisplacedSwitches, WrongAbbreviation, WrongVerb, NoMain}
use Rattle.inf_report.specs.Messages.{MisplacedDefault, ErrorText, LoneConditional, UnusedLocal, WarningText, Exceeded, NoInclude}
use Rattle.inf_report.specs.Messages.{TooManyFiles, FatalText, TooManyErrors, ReadableTooLong, StoryTooLong, NoSource, DeepNesting}

abbrev pub located : CodeLocation → Location
located at = record { file = at.file.now; line = at.line }

abbrev pub named : CodeTold → Told
named (CodeTold.Bytes bytes) = Bytes bytes.now
named (CodeTold.Quote bytes) = Quote bytes.now
named CodeTold.Text = Text
named CodeTold.End = End

abbrev pub worded : OwnWords → Words
worded w = record { bytes = w.bytes.now; set = w.set }

abbrev pub meant : CodeMessage → Message
meant (CodeMessage.Syntax t) = Syntax (named t)
meant CodeMessage.IllegalCharacter = IllegalCharacter
meant CodeMessage.UnclosedQuote = UnclosedQuote
meant CodeMessage.NumberOutOfRange = NumberOutOfRange
meant CodeMessage.UnknownEscape = UnknownEscape
meant CodeMessage.LongName = LongName
meant CodeMessage.NoZscii = NoZscii
meant (CodeMessage.Declared name at) = Declared name.now (located at)
meant (CodeMessage.SystemName name) = SystemName name.now
meant (CodeMessage.WrongKind t) = WrongKind (named t)
meant (CodeMessage.Undeclared name) = Undeclared name.now
meant (CodeMessage.UsedBefore name) = UsedBefore name.now
meant CodeMessage.NotConstant = NotConstant
meant CodeMessage.ConstantOutOfRange = ConstantOutOfRange
meant CodeMessage.TooManyArguments = TooManyArguments
meant (CodeMessage.WrongOpcode name) = WrongOpcode name.now
meant (CodeMessage.LabelMissing name) = LabelMissing name.now
meant (CodeMessage.LabelTwice name) = LabelTwice name.now
meant CodeMessage.NothingToLeave = NothingToLeave
meant CodeMessage.BranchTooFar = BranchTooFar
meant (CodeMessage.TooMany what) = TooMany what
meant CodeMessage.MisplacedSwitches = MisplacedSwitches
meant CodeMessage.WrongAbbreviation = WrongAbbreviation
meant (CodeMessage.WrongVerb t) = WrongVerb (named t)
meant CodeMessage.NoMain = NoMain
meant CodeMessage.MisplacedDefault = MisplacedDefault
meant (CodeMessage.ErrorText words) = ErrorText (worded words)
meant CodeMessage.LoneConditional = LoneConditional
meant (CodeMessage.UnusedLocal name) = UnusedLocal name.now
meant (CodeMessage.WarningText words) = WarningText (worded words)
meant (CodeMessage.Exceeded setting) = Exceeded setting
meant (CodeMessage.NoInclude name) = NoInclude name.now
meant CodeMessage.TooManyFiles = TooManyFiles
meant (CodeMessage.FatalText words) = FatalText (worded words)
meant CodeMessage.TooManyErrors = TooManyErrors
meant CodeMessage.ReadableTooLong = ReadableTooLong
meant (CodeMessage.StoryTooLong bytes) = StoryTooLong bytes
meant (CodeMessage.NoSource name) = NoSource name.now
meant CodeMessage.DeepNesting = DeepNesting
