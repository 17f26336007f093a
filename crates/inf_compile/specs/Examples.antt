-- Worked examples: the outcomes of the main source `t.inf` among some sources.
use Rattle.std.specs.Prelude.{◌≡◌, ℕ, List, [], ◌++◌, length, codes, if◌then◌else◌, true, zero, suc, Some, None, bytes_eq}
use Rattle.inf_letters.specs.Letters.{none_spoken}
use Rattle.inf_link.specs.{Header.number_bytes, StoryLaws.HasAt}
use Rattle.inf_settings.specs.Settings.{defaults}
use Rattle.inf_devices.specs.Files.{Sources}
use Rattle.inf_session.specs.Choices.{Choices}
use Rattle.inf_compile.specs.Outcome.{IsOutcome}
use Rattle.inf_ending.specs.declared.compiled.Status.{Status}

abbrev pub name : List ℕ
name = codes "t.inf"

-- sources of no file, and with one more
abbrev pub no_files : Sources
no_files n = None

abbrev pub with_source : List ℕ → List ℕ → Sources → Sources
with_source file source others n = if bytes_eq n file then Some source else others n

abbrev pub only : List ℕ → Sources
only source = with_source name source no_files

-- the choices where no word chooses anything
abbrev pub plain : Choices
plain = record { letters = none_spoken; settings = defaults; directories = [] }

-- Some sources have errors: there are these messages, and no story.
abbrev pub Refuses : Sources → List ℕ → Type 0
Refuses sources messages =
    (serial : List ℕ) → IsOutcome sources plain serial name (record { messages = messages; story = None; status = Status.Errors })

abbrev pub NoSource : Type 0
NoSource = Refuses no_files (codes "t.inf(1): Fatal error: No file \"t.inf\"\n")

abbrev pub EmptySource : Type 0
EmptySource = Refuses (only []) (codes "t.inf(1): Error: No routine \"Main\"\nErrors: 1, warnings: 0 (no output)\n")

abbrev pub TextIsMissing : Type 0
TextIsMissing =
    Refuses (only (codes "[ Main;\nprint ;\n];\n")) (codes "t.inf(2): Error: Syntax error at \";\"\nErrors: 1, warnings: 0 (no output)\n")

-- Each undeclared name is reported once, in order of first use, as it is spelled there.
abbrev pub NamesAreUndeclared : Type 0
NamesAreUndeclared = Refuses (only (codes "[ Main; a(); b(C); A(); ];\n"))
    (codes "t.inf(1): Error: \"a\" was never declared\nt.inf(1): Error: \"b\" was never declared\n"
    ++ codes "t.inf(1): Error: \"C\" was never declared\nErrors: 3, warnings: 0 (no output)\n")

-- The outer file goes on behind the inner one, which is read at each inclusion.
abbrev pub FilesAreIncluded : Type 0
FilesAreIncluded =
    Refuses (with_source (codes "c.h") (codes "\nMessage \"c\";") (only (codes "Include \"c\";\nInclude \">c\"; Message \"b\"; 5;")))
    (codes "c\nc\nb\nt.inf(2): Error: Syntax error at \"5\"\nt.inf(1): Error: No routine \"Main\"\nErrors: 2, warnings: 0 (no output)\n")

-- A name of an included file is known, one that is declared later is not, and a conditional ends with its file.
abbrev pub ConditionalsChoose : Type 0
ConditionalsChoose = Refuses (with_source (codes "c.h") (codes "Constant K;")
    (only (codes "Include \"c.h\";\nIfdef K; Message \"yes\"; Ifnot; Message \"no\"; Endif;\n"
    ++ codes "[ Main; #Ifdef L; new_line; #Endif; ];\nConstant L;\nIfdef M;")))
    (codes "yes\nt.inf(5): Error: Conditional without its other end\nErrors: 1, warnings: 0 (no output)\n")

-- A condition is a known number of names that were declared by the directives before it; with an error it is false. No local hides a
-- name in it, and a token that does not fit it is the bad one of the directive around it.
abbrev pub ConditionsChoose : Type 0
ConditionsChoose = Refuses (only (codes "Constant K = 3;\nIftrue K * 2 == 6; Message \"a\"; Ifnot; Message \"no\"; Endif;\n"
    ++ codes "Iffalse 1 / 0; Message \"b\"; Endif;\n[ Main K; #Iftrue K == 3; K; #Endif;\n"
    ++ codes "#Iffalse L; #Endif;\n#Iftrue 1); ];\nConstant L;"))
    (codes "a\nt.inf(3): Error: Constant out of range\nb\nt.inf(5): Error: Not a constant known here\n"
    ++ codes "t.inf(6): Error: Syntax error at \")\"\nErrors: 3, warnings: 0 (no output)\n")

-- a text, repeated this number of times
abbrev pub times : ℕ → List ℕ → List ℕ
times zero bytes = []
times (suc n) bytes = bytes ++ times n bytes

-- A file includes itself, and sixteen of it are open at most.
abbrev pub SixteenAreOpen : Type 0
SixteenAreOpen = Refuses (only (codes "Message \"x\";\nInclude \"t.inf\";"))
    (times 16 (codes "x\n") ++ codes "t.inf(2): Fatal error: More than 16 files open\n")

-- A story has 976 bytes, and its header says that it has 244 fours.
pub record IsHello (serial : List ℕ) : Type 0 where
  pub story : List ℕ
  pub is_outcome : IsOutcome (only (codes "[ Main; print \"hello\"; ];")) plain serial name
      (record { messages = codes "Errors: 0, warnings: 0\n"; story = Some story; status = Status.Success })
  pub size : length story ≡ 976
  pub length_word : HasAt 0x1A story (number_bytes 244)

abbrev pub HelloIsAStory : Type 0
HelloIsAStory = (serial : List ℕ) → length serial ≡ 6 → IsHello serial
