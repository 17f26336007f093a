-- The messages of a compilation: their texts, their kinds, and their numbers in the table of messages.
use Rattle.std.specs.Prelude.{ℕ, List, ◌++◌, codes, decimal}
use Rattle.inf_settings.specs.{Settings.name_of, declared.setting.Setting.Setting}
use Rattle.inf_report.specs.{OwnWords.Words, OwnWords.shown, declared.messages.FixedLimit.FixedLimit, declared.messages.Kind.Kind}

-- a line of a file
pub record Location : Type 0 where
  pub file : List ℕ
  pub line : ℕ

-- a line of the routines that the compiler has of its own, which are named as a file
abbrev pub veneer_line : ℕ → Location
veneer_line line = record { file = codes "veneer"; line = line }

-- A token as messages name it: by its bytes, which are those between its quotes where it has single ones; but a text by that word,
-- and the end of a file.
pub data Told : Type 0 where
  Bytes : (bytes : List ℕ) → Told
  Quote : (bytes : List ℕ) → Told
  Text : Told
  End : Told

pub data Message : Type 0 where
  -- These are errors.
  Syntax : (token : Told) → Message
  IllegalCharacter : Message
  UnclosedQuote : Message
  NumberOutOfRange : Message
  UnknownEscape : Message
  LongName : Message
  NoZscii : Message
  Declared : (name : List ℕ) (location : Location) → Message
  SystemName : (name : List ℕ) → Message
  WrongKind : (token : Told) → Message
  Undeclared : (name : List ℕ) → Message
  UsedBefore : (name : List ℕ) → Message
  NotConstant : Message
  ConstantOutOfRange : Message
  TooManyArguments : Message
  WrongOpcode : (name : List ℕ) → Message
  LabelMissing : (name : List ℕ) → Message
  LabelTwice : (name : List ℕ) → Message
  NothingToLeave : Message
  BranchTooFar : Message
  TooMany : (what : FixedLimit) → Message
  MisplacedSwitches : Message
  WrongAbbreviation : Message
  WrongVerb : (token : Told) → Message
  NoMain : Message
  MisplacedDefault : Message
  ErrorText : (words : Words) → Message
  LoneConditional : Message
  -- These are warnings.
  UnusedLocal : (name : List ℕ) → Message
  WarningText : (words : Words) → Message
  -- These are fatal errors.
  Exceeded : (setting : Setting) → Message
  NoInclude : (name : List ℕ) → Message
  TooManyFiles : Message
  FatalText : (words : Words) → Message
  TooManyErrors : Message
  ReadableTooLong : Message
  StoryTooLong : (bytes : ℕ) → Message
  NoSource : (name : List ℕ) → Message
  DeepNesting : Message

-- bytes between double quotes
abbrev pub quoted : List ℕ → List ℕ
quoted bytes = codes "\"" ++ bytes ++ codes "\""

-- the words for a line of a file
abbrev pub place : List ℕ → ℕ → List ℕ
place file line = file ++ codes "(" ++ decimal line ++ codes ")"

-- the words for a token
abbrev pub told : Told → List ℕ
told (Bytes bytes) = quoted bytes
told (Quote bytes) = quoted (codes "'" ++ bytes ++ codes "'")
told Text = codes "text"
told End = codes "end of file"

-- the most that there can be of one kind, with its name
abbrev pub most : FixedLimit → List ℕ
most FixedLimit.Locals = codes "15 locals"
most FixedLimit.Globals = codes "235 globals"
most FixedLimit.Attributes = codes "48 attributes"
most FixedLimit.Properties = codes "60 properties"
most FixedLimit.Values = codes "32 values"
most FixedLimit.Abbreviations = codes "64 abbreviations"
most FixedLimit.Verbs = codes "255 verbs"

-- the text of a message
abbrev pub text : Message → List ℕ
text (Syntax t) = codes "Syntax error at " ++ told t
text IllegalCharacter = codes "Illegal character"
text UnclosedQuote = codes "Unclosed or empty quote"
text NumberOutOfRange = codes "Number out of range"
text UnknownEscape = codes "Unknown escape"
text LongName = codes "Name longer than 32"
text NoZscii = codes "No ZSCII character"
text (Declared name at) = quoted name ++ codes " was declared at " ++ place at.file at.line
text (SystemName name) = quoted name ++ codes " is a system name"
text (WrongKind t) = codes "Wrong kind: " ++ told t
text (Undeclared name) = quoted name ++ codes " was never declared"
text (UsedBefore name) = quoted name ++ codes " was used before its declaration"
text NotConstant = codes "Not a constant known here"
text ConstantOutOfRange = codes "Constant out of range"
text TooManyArguments = codes "Too many arguments"
text (WrongOpcode name) = codes "Wrong opcode or operands: " ++ quoted name
text (LabelMissing name) = codes "Label " ++ quoted name ++ codes " is missing"
text (LabelTwice name) = codes "Label " ++ quoted name ++ codes " is given twice"
text NothingToLeave = codes "No loop or switch to leave or continue"
text BranchTooFar = codes "Branch too far"
text (TooMany what) = codes "More than " ++ most what
text MisplacedSwitches = codes "Switches must come first and hold known switches"
text WrongAbbreviation = codes "Abbreviation late, repeated or too short"
text (WrongVerb t) = codes "Wrong verb: " ++ told t
text NoMain = codes "No routine \"Main\""
text MisplacedDefault = codes "default must come once and last"
text (ErrorText words) = shown words
text LoneConditional = codes "Conditional without its other end"
text (UnusedLocal name) = codes "Local " ++ quoted name ++ codes " is unused"
text (WarningText words) = shown words
text (Exceeded setting) = name_of setting ++ codes " is exceeded"
text (NoInclude name) = codes "No file " ++ quoted name
text TooManyFiles = codes "More than 16 files open"
text (FatalText words) = shown words
text TooManyErrors = codes "Too many errors"
text ReadableTooLong = codes "Readable memory is over 65534 bytes"
text (StoryTooLong bytes) = codes "Story is over " ++ decimal bytes ++ codes " bytes"
text (NoSource name) = codes "No file " ++ quoted name
text DeepNesting = codes "Nesting over 64"

abbrev pub kind_of : Message → Kind
kind_of (Syntax _) = Kind.Error
kind_of IllegalCharacter = Kind.Error
kind_of UnclosedQuote = Kind.Error
kind_of NumberOutOfRange = Kind.Error
kind_of UnknownEscape = Kind.Error
kind_of LongName = Kind.Error
kind_of NoZscii = Kind.Error
kind_of (Declared _ _) = Kind.Error
kind_of (SystemName _) = Kind.Error
kind_of (WrongKind _) = Kind.Error
kind_of (Undeclared _) = Kind.Error
kind_of (UsedBefore _) = Kind.Error
kind_of NotConstant = Kind.Error
kind_of ConstantOutOfRange = Kind.Error
kind_of TooManyArguments = Kind.Error
kind_of (WrongOpcode _) = Kind.Error
kind_of (LabelMissing _) = Kind.Error
kind_of (LabelTwice _) = Kind.Error
kind_of NothingToLeave = Kind.Error
kind_of BranchTooFar = Kind.Error
kind_of (TooMany _) = Kind.Error
kind_of MisplacedSwitches = Kind.Error
kind_of WrongAbbreviation = Kind.Error
kind_of (WrongVerb _) = Kind.Error
kind_of NoMain = Kind.Error
kind_of MisplacedDefault = Kind.Error
kind_of (ErrorText _) = Kind.Error
kind_of LoneConditional = Kind.Error
kind_of (UnusedLocal _) = Kind.Warning
kind_of (WarningText _) = Kind.Warning
kind_of (Exceeded _) = Kind.Fatal
kind_of (NoInclude _) = Kind.Fatal
kind_of TooManyFiles = Kind.Fatal
kind_of (FatalText _) = Kind.Fatal
kind_of TooManyErrors = Kind.Fatal
kind_of ReadableTooLong = Kind.Fatal
kind_of (StoryTooLong _) = Kind.Fatal
kind_of (NoSource _) = Kind.Fatal
kind_of DeepNesting = Kind.Fatal

-- the number of a message among those of its kind: of two errors at one place the one with the lesser number is reported
abbrev pub number_of : Message → ℕ
number_of (Syntax _) = 1
number_of IllegalCharacter = 2
number_of UnclosedQuote = 3
number_of NumberOutOfRange = 4
number_of UnknownEscape = 5
number_of LongName = 6
number_of NoZscii = 7
number_of (Declared _ _) = 8
number_of (SystemName _) = 8
number_of (WrongKind _) = 9
number_of (Undeclared _) = 10
number_of (UsedBefore _) = 11
number_of NotConstant = 12
number_of ConstantOutOfRange = 13
number_of TooManyArguments = 14
number_of (WrongOpcode _) = 15
number_of (LabelMissing _) = 16
number_of (LabelTwice _) = 16
number_of NothingToLeave = 17
number_of BranchTooFar = 18
number_of (TooMany _) = 19
number_of MisplacedSwitches = 20
number_of WrongAbbreviation = 21
number_of (WrongVerb _) = 22
number_of NoMain = 23
number_of MisplacedDefault = 24
number_of (ErrorText _) = 25
number_of LoneConditional = 26
number_of (UnusedLocal _) = 1
number_of (WarningText _) = 2
number_of (Exceeded _) = 1
number_of (NoInclude _) = 2
number_of TooManyFiles = 3
number_of (FatalText _) = 4
number_of TooManyErrors = 5
number_of ReadableTooLong = 6
number_of (StoryTooLong _) = 7
number_of (NoSource _) = 8
number_of DeepNesting = 9

-- the words between the place and the text
abbrev pub severity : Kind → List ℕ
severity Kind.Error = codes ": Error: "
severity Kind.Warning = codes ": Warning: "
severity Kind.Fatal = codes ": Fatal error: "

-- the line of a message of this kind, at a place
abbrev pub line_of : Kind → Location → Message → List ℕ
line_of k at m = place at.file at.line ++ severity k ++ text m ++ codes "\n"
