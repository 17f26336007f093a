-- The faults of tokens by themselves.
use Rattle.std.specs.Prelude.{Option, Some, None, unwrap_or}
use Rattle.inf_scanner.specs.{declared.tokens.BadToken.BadToken, declared.tokens.TokenKind.TokenKind}
use Rattle.inf_settings.specs.declared.setting.Setting.{Setting}
use Rattle.inf_report.specs.Messages.{Message, Syntax, IllegalCharacter, UnclosedQuote, NumberOutOfRange, UnknownEscape, LongName, NoZscii}
use Rattle.inf_report.specs.Messages.{Exceeded}
use Rattle.inf_unit.specs.Tokens.{SourceToken, told}

abbrev pub message_of : BadToken → Message
message_of BadToken.Unfit = IllegalCharacter
message_of BadToken.Unclosed = UnclosedQuote
message_of BadToken.EmptyQuote = UnclosedQuote
message_of BadToken.Number = NumberOutOfRange
message_of BadToken.LongName = LongName
message_of BadToken.UnknownEscape = UnknownEscape
message_of BadToken.NoZscii = NoZscii
message_of BadToken.BadCode = NumberOutOfRange
message_of BadToken.TooLong = Exceeded Setting.QuotedText

-- the message about a token that is faulty by itself
abbrev pub fault_of_kind : TokenKind → Option Message
fault_of_kind (TokenKind.Bad b) = Some (message_of b)
fault_of_kind _ = None

abbrev pub fault_of : SourceToken → Option Message
fault_of t = fault_of_kind t.kind

-- the message of the bad token of a piece: its own fault, or that it fits nowhere
abbrev pub complaint_of : SourceToken → Message
complaint_of t = unwrap_or (fault_of t) (Syntax (told t))
