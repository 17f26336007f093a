-- The directives `Verb`, `Extend` and `Fake_action`, and the lines of the first two, one by one. Designer's Manual, fourth edition,
-- section 30.
use Rattle.std.specs.Prelude.{ℕ, zero, suc, ◌+◌, ◌-◌, min, nat_le, nat_lt, List, [], ◌∷◌, ◌++◌, length, codes, Bool, true, false, not}
use Rattle.std.specs.Prelude.{◌||◌, if◌then◌else◌, Option, Some, None, is_some}
use Rattle.std.specs.Str.{str_eq_ignore_ascii_case}
use Rattle.inf_settings.specs.{Bounds.Limits, Settings.number_of as setting_number, declared.setting.Setting.Setting}
use Rattle.inf_settings.specs.{declared.settings.Settings.Settings}
use Rattle.inf_dictionary.specs.{Texts.Text, Words.first_misfit, Words.verb_of, declared.uses.WordUse.WordUse}
use Rattle.inf_expressions.specs.{declared.findings.Finding.Finding, declared.findings.UnitError.UnitError}
use Rattle.inf_expressions.specs.Findings.{least_of_both, wrong_kind}
use Rattle.inf_names.specs.{Spellings.Name, Symbols.Table, Symbols.found_in, declared.meanings.Meaning.Meaning}
use Rattle.inf_names.specs.{declared.symbols.DeclareFault.DeclareFault, declared.symbols.Found.Found}
use Rattle.inf_output.specs.Actions.{action_of, faked, routine_referred}
use Rattle.inf_output.specs.Output.{Code, Out, passed_table, with_word}
use Rattle.inf_report.specs.{Messages.TooMany, declared.messages.FixedLimit.FixedLimit}
use Rattle.inf_scanner.specs.{declared.tokens.DictionaryWord.DictionaryWord, declared.tokens.Mark.Mark, declared.tokens.Place.Place}
use Rattle.inf_scanner.specs.{declared.tokens.TokenKind.TokenKind}
use Rattle.inf_unit.specs.{LongLines.LongLine, LongLines.name_added, LongLines.word_added, Tokens.SourceToken}
use Rattle.inf_unit.specs.Units.{Unit, bytes_at, first_place, is_some_mark, kind_at, last_leaf, name_at, name_order, next_place, order}
use Rattle.inf_unit.specs.Units.{sifted}
use Rattle.inf_compilation.specs.{Context.Context, declared.compilation.Extending.Extending}
use Rattle.inf_compilation.specs.Actions.{Compilation, passed, unit_ended}
use Rattle.inf_compilation.specs.Findings.{Again, Findings, again_by, again_finding, found_alone, many_finding}
use Rattle.inf_verbs.specs.{Lines.LineOf, declared.lines.LineToken.LineToken, declared.lines.Noun.Noun, declared.verbs.LineFault.LineFault}
use Rattle.inf_verbs.specs.{declared.verbs.LinePlace.LinePlace, declared.verbs.VerbFault.VerbFault}
use Rattle.inf_verbs.specs.Routines.{number_of, with_routine}
use Rattle.inf_verbs.specs.Verbs.{AllVerbs, add_fault, line_fault_of, with_extended, with_line_of, with_verb}
use Rattle.inf_verb_lines.specs.{declared.lines.Named.Named, declared.verbs.Opened.Opened, declared.verbs.VerbHead.VerbHead}

-- Definitions of tokens

abbrev pub is_mark_at : List SourceToken → ℕ → Mark → Bool
is_mark_at tokens at m = is_some_mark m (kind_at tokens at)

abbrev pub is_name_in : Option TokenKind → Bool
is_name_in (Some TokenKind.Name) = true
is_name_in _ = false

-- the word of the dictionary that a token is
abbrev pub word_in : Option TokenKind → Option DictionaryWord
word_in (Some (TokenKind.Word word)) = Some word
word_in _ = None

abbrev pub word_at : List SourceToken → ℕ → Option DictionaryWord
word_at tokens at = word_in (kind_at tokens at)

-- the findings about a unit of a verb: a limit that it passes is that of verbs
abbrev pub verb_findings : Option Finding → Findings
verb_findings found = record (found_alone found) { many = FixedLimit.Verbs }

abbrev pub verb_ended : Limits → Context → Place → Option Finding → Compilation → Compilation
verb_ended limits context first found w = unit_ended limits context first false (verb_findings found) w

-- the finding that the word at a place should, or should not, be one of a verb
abbrev pub wrong_verb : ℕ → Finding
wrong_verb at = record { order = order at; error = UnitError.WrongVerb }

-- The header of `Verb`: behind its word `meta` may come, then there are words, and at its end `=` and a word may come, whose verb gets
-- more words.
abbrev pub words_from : ℕ → Bool → ℕ
words_from order is_meta = if is_meta then order + 1 else order

abbrev pub words_end : Bool → ℕ → ℕ
words_end has_sign count = if has_sign then count - 2 else count

abbrev pub like_at : Bool → ℕ → Option ℕ
like_at has_sign count = if has_sign then Some (count - 1) else None

abbrev pub head_with : Bool → Bool → ℕ → ℕ → VerbHead
head_with is_meta has_sign order count = record {
  is_meta = is_meta;
  first = words_from order is_meta;
  end = words_end has_sign count;
  like = like_at has_sign count;
}

abbrev pub verb_head : List SourceToken → VerbHead
verb_head tokens =
    head_with (is_name_in (kind_at tokens (name_order tokens))) (is_mark_at tokens (length tokens - 2) Mark.Assign) (name_order tokens)
    (length tokens)

-- The findings about the header: the verb behind `=` is none, or there are 255 verbs; or a word is one of a verb's already, or comes twice.
abbrev pub verb_by : Option DictionaryWord → Out → Option ℕ
verb_by None o = None
verb_by (Some word) o = verb_of word.text o.tables.dictionary.list

abbrev pub verb_named : List SourceToken → ℕ → Out → Option ℕ
verb_named tokens at o = verb_by (word_at tokens at) o

abbrev pub no_verb_finding : ℕ → Option ℕ → Option Finding
no_verb_finding at None = Some (wrong_verb at)
no_verb_finding at (Some number) = None

abbrev pub has_most_verbs : Out → Bool
has_most_verbs o = nat_le 255 (length o.tables.verbs.list)

abbrev pub has_verb : ℕ → Out → Bool
has_verb number o = nat_lt number (length o.tables.verbs.list)

abbrev pub like_finding : Option ℕ → List SourceToken → Out → Option Finding
like_finding None tokens o = many_finding (has_most_verbs o)
like_finding (Some at) tokens o = no_verb_finding at (verb_named tokens at o)

abbrev pub with_text : Option DictionaryWord → List Text → List Text
with_text None texts = texts
with_text (Some word) texts = texts ++ word.text ∷ []

abbrev pub texts_before : ℕ → List SourceToken → List Text
texts_before zero tokens = []
texts_before (suc at) tokens = with_text (word_at tokens at) (texts_before at tokens)

unfoldable pub place_behind : ℕ → ℕ → ℕ
place_behind first place = min (first + place) 18446744073709551615

abbrev pub misfit_finding : ℕ → Option ℕ → Option Finding
misfit_finding first None = None
misfit_finding first (Some place) = Some (wrong_verb (place_behind first place))

abbrev pub words_finding : VerbHead → List SourceToken → Out → Option Finding
words_finding head tokens o = misfit_finding head.first (first_misfit o.tables.dictionary.list 0 [] (texts_before head.end tokens))

abbrev pub head_finding : VerbHead → List SourceToken → Out → Option Finding
head_finding head tokens o = least_of_both (like_finding head.like tokens o) (words_finding head tokens o)

-- A new verb, whose lines are those that follow. Where there would be too many, that limit is passed.
abbrev pub with_verbs : AllVerbs → Code
with_verbs verbs o = record o { tables = record o.tables { verbs = verbs } }

abbrev pub verb_passed : Limits → Setting → Out → Out × Opened
verb_passed limits limit o = (passed_table limits limit o, record { words = Some 0; lines = None })

abbrev pub new_verb_by : Limits → Option VerbFault → Out → Out × Opened
new_verb_by limits None o =
    let number =
    length o.tables.verbs.list in (with_verbs (with_verb o.tables.verbs) o, record { words = Some number; lines = Some number })
new_verb_by limits (Some VerbFault.TooMany) o = (o, record { words = None; lines = None })
new_verb_by limits (Some VerbFault.Full) o = verb_passed limits Setting.Verbs o
new_verb_by limits (Some VerbFault.NoSpace) o = verb_passed limits Setting.GrammarLines o
new_verb_by limits (Some VerbFault.Memory) o = (o, record { words = None; lines = None })

abbrev pub new_verb : Limits → Out → Out × Opened
new_verb limits o = new_verb_by limits (add_fault limits o.tables.verbs) o

abbrev pub verb_begun : Limits → Option ℕ → List SourceToken → Out → Out × Opened
verb_begun limits None tokens o = new_verb limits o
verb_begun limits (Some at) tokens o = (o, record { words = verb_named tokens at o; lines = None })

-- the use of a verb's words
abbrev pub verb_use : ℕ → Bool → WordUse
verb_use number is_meta = if is_meta then WordUse.MetaVerb number else WordUse.Verb number

abbrev pub word_used : Limits → Option DictionaryWord → WordUse → Code
word_used limits None how o = o
word_used limits (Some word) how o = with_word limits word.text how word.is_plural o

abbrev pub words_used : Limits → ℕ → List SourceToken → WordUse → Code
words_used limits zero tokens how o = o
words_used limits (suc at) tokens how o = word_used limits (word_at tokens at) how (words_used limits at tokens how o)

abbrev pub like_used : Limits → Option ℕ → List SourceToken → ℕ → Code
like_used limits None tokens number o = o
like_used limits (Some at) tokens number o = word_used limits (word_at tokens at) (WordUse.Verb number) o

abbrev pub words_given : Limits → Option ℕ → VerbHead → List SourceToken → Code
words_given limits None head tokens o = o
words_given limits (Some number) head tokens o =
    like_used limits head.like tokens number (words_used limits head.end tokens (verb_use number head.is_meta) o)

abbrev pub verb_opened : Limits → VerbHead → List SourceToken → Out → Out × Option ℕ
verb_opened limits head tokens o = let b = verb_begun limits head.like tokens o in (words_given limits b.1.words head tokens b.0, b.1.lines)

abbrev pub lines_of : Option ℕ → LinePlace → Extending
lines_of verb place = record { verb = verb; place = place }

abbrev pub header_opened : Limits → Option Finding → VerbHead → Compilation → Compilation
header_opened limits (Some f) head w = record w { extending = lines_of None LinePlace.Last }
header_opened limits None head w =
    let v = verb_opened limits head w.unit.tokens w.output in record w { output = v.0; extending = lines_of v.1 LinePlace.Last }

abbrev pub verb_header_with : Limits → Context → Place → VerbHead → Compilation → Compilation
verb_header_with limits context first head w =
    let found = head_finding head w.unit.tokens w.output in verb_ended limits context first found (header_opened limits found head w)

abbrev pub verb_header : Limits → Context → Place → Compilation → Compilation
verb_header limits context first w = verb_header_with limits context first (verb_head w.unit.tokens) w

-- The header of `Extend`: the word behind that of the verb says where further lines go.
abbrev pub place_named : List ℕ → LinePlace
place_named name = if str_eq_ignore_ascii_case name (codes "first") then LinePlace.First else
    if str_eq_ignore_ascii_case name (codes "replace") then LinePlace.Replace else LinePlace.Last

abbrev pub lines_extended : ℕ → LinePlace → Code
lines_extended number place o = if has_verb number o then with_verbs (with_extended number place o.tables.verbs) o else o

abbrev pub verb_extended : Limits → Option ℕ → LinePlace → Option DictionaryWord → Code
verb_extended limits None place word o = o
verb_extended limits (Some number) place word o = lines_extended number place (word_used limits word (WordUse.Verb number) o)

abbrev pub extend_with : Limits → Context → Place → ℕ → Option ℕ → LinePlace → Compilation → Compilation
extend_with limits context first at number place w = verb_ended limits context first (no_verb_finding at number)
    (record w { extending = lines_of number place; output = verb_extended limits number place (word_at w.unit.tokens at) w.output })

abbrev pub extend_header : Limits → Context → Place → Compilation → Compilation
extend_header limits context first w =
    let at = name_order w.unit.tokens in
    extend_with limits context first at (verb_named w.unit.tokens at w.output) (place_named (bytes_at w.unit.tokens (at + 1))) w

-- Definitions of findings about a line

abbrev pub noun_named : List ℕ → Option Noun
noun_named name = if str_eq_ignore_ascii_case name (codes "noun") then Some Noun.Noun else
    if str_eq_ignore_ascii_case name (codes "held") then Some Noun.Held else
    if str_eq_ignore_ascii_case name (codes "multi") then Some Noun.Multi else
    if str_eq_ignore_ascii_case name (codes "multiheld") then Some Noun.MultiHeld else
    if str_eq_ignore_ascii_case name (codes "multiexcept") then Some Noun.MultiExcept else
    if str_eq_ignore_ascii_case name (codes "multiinside") then Some Noun.MultiInside else
    if str_eq_ignore_ascii_case name (codes "creature") then Some Noun.Creature else
    if str_eq_ignore_ascii_case name (codes "special") then Some Noun.Special else
    if str_eq_ignore_ascii_case name (codes "number") then Some Noun.Number else
    if str_eq_ignore_ascii_case name (codes "topic") then Some Noun.Topic else None

-- a meaning that may be a routine's, or is an attribute's
abbrev pub is_routine : Meaning → Bool
is_routine (Meaning.Routine place) = true
is_routine _ = false

abbrev pub can_be_routine : Found Place → Bool
can_be_routine (Found.Declared m first) = is_routine m
can_be_routine (Found.System m) = false
can_be_routine Found.Used = true
can_be_routine Found.Unknown = true

abbrev pub attribute_of : Meaning → Option ℕ
attribute_of (Meaning.Attribute number) = Some number
attribute_of _ = None

abbrev pub attribute_in : Found Place → Option ℕ
attribute_in (Found.Declared m first) = attribute_of m
attribute_in _ = None

-- A name by itself is a noun, an attribute or a routine; one before `=` is `noun` or `scope`, and one behind it a routine.
abbrev pub is_filter_word : List ℕ → Bool
is_filter_word name = str_eq_ignore_ascii_case name (codes "noun")

abbrev pub is_sign_word : List ℕ → Bool
is_sign_word name = is_filter_word name || str_eq_ignore_ascii_case name (codes "scope")

abbrev pub named_behind : List ℕ → Named
named_behind word = if is_filter_word word then Named.Filter else Named.Scope

abbrev pub named_at : List SourceToken → ℕ → Named
named_at tokens at = if is_mark_at tokens (next_place at) Mark.Assign then Named.Sign else
    if is_mark_at tokens (at - 1) Mark.Assign then named_behind (bytes_at tokens (at - 2)) else Named.Alone

abbrev pub is_lone_name : Option Noun → Found Place → Bool
is_lone_name n f = is_some n || (is_some (attribute_in f) || can_be_routine f)

abbrev pub is_right : Named → List ℕ → Table Place → Bool
is_right Named.Sign name names = is_sign_word name
is_right Named.Filter name names = can_be_routine (found_in name names)
is_right Named.Scope name names = can_be_routine (found_in name names)
is_right Named.Alone name names = is_lone_name (noun_named name) (found_in name names)

abbrev pub wrong_unless : Bool → ℕ → Option Finding
wrong_unless is_right at = if is_right then None else Some (wrong_kind (order at))

abbrev pub named_finding : Option Name → List SourceToken → ℕ → Table Place → Option Finding
named_finding None tokens at names = None
named_finding (Some n) tokens at names = wrong_unless (is_right (named_at tokens at) n.bytes names) at

abbrev pub token_finding : List SourceToken → ℕ → Table Place → Option Finding
token_finding tokens at names = named_finding (name_at tokens at) tokens at names

-- the least of the findings about the tokens before a place
abbrev pub tokens_finding : ℕ → List SourceToken → Table Place → Option Finding
tokens_finding zero tokens names = None
tokens_finding (suc at) tokens names = least_of_both (tokens_finding at tokens names) (token_finding tokens at names)

-- Definitions of the tokens of a line

-- a word, which a mark before or behind it makes one of some alternatives
abbrev pub preposition : List SourceToken → ℕ → DictionaryWord → LineToken
preposition tokens at word =
    LineToken.Preposition word.text (not (is_mark_at tokens (at - 1) Mark.Divide)) (not (is_mark_at tokens (next_place at) Mark.Divide))

-- Routines that parse are used, and have numbers of their own.
abbrev pub with_parsing : List ℕ → Code
with_parsing routines o = record o { tables = record o.tables { parsing = routines } }

abbrev pub parsing_as : Option ℕ → Out → Out × ℕ
parsing_as None o = (o, 0)
parsing_as (Some routine) o = (with_parsing (with_routine routine o.tables.parsing) o, number_of routine o.tables.parsing)

abbrev pub parsing_of : Out × Option ℕ → Out × ℕ
parsing_of r = parsing_as r.1 r.0

abbrev pub parsing_routine : Limits → Option Name → Out → Out × ℕ
parsing_routine limits None o = (o, 0)
parsing_routine limits (Some n) o = parsing_of (routine_referred limits n.bytes n.place o)

abbrev pub filter_token : Out × ℕ → Out × Option LineToken
filter_token r = (r.0, Some (LineToken.Filter r.1))

abbrev pub scope_token : Out × ℕ → Out × Option LineToken
scope_token r = (r.0, Some (LineToken.Scope r.1))

abbrev pub routine_token : Out × ℕ → Out × Option LineToken
routine_token r = (r.0, Some (LineToken.Routine r.1))

abbrev pub lone_by : Limits → Option Noun → Option ℕ → Option Name → Out → Out × Option LineToken
lone_by limits (Some n) attribute name o = (o, Some (LineToken.Noun n))
lone_by limits None (Some number) name o = (o, Some (LineToken.Attribute number))
lone_by limits None None name o = routine_token (parsing_routine limits name o)

abbrev pub lone_token : Limits → List SourceToken → ℕ → Out → Out × Option LineToken
lone_token limits tokens at o =
    lone_by limits (noun_named (bytes_at tokens at)) (attribute_in (found_in (bytes_at tokens at) o.names)) (name_at tokens at) o

abbrev pub name_token : Limits → Named → List SourceToken → ℕ → Out → Out × Option LineToken
name_token limits Named.Sign tokens at o = (o, None)
name_token limits Named.Filter tokens at o = filter_token (parsing_routine limits (name_at tokens at) o)
name_token limits Named.Scope tokens at o = scope_token (parsing_routine limits (name_at tokens at) o)
name_token limits Named.Alone tokens at o = lone_token limits tokens at o

abbrev pub line_token_by : Limits → Option TokenKind → List SourceToken → ℕ → Out → Out × Option LineToken
line_token_by limits (Some (TokenKind.Word word)) tokens at o =
    (with_word limits word.text WordUse.Preposition word.is_plural o, Some (preposition tokens at word))
line_token_by limits (Some TokenKind.Name) tokens at o = name_token limits (named_at tokens at) tokens at o
line_token_by limits _ tokens at o = (o, None)

abbrev pub line_token : Limits → List SourceToken → ℕ → Out → Out × Option LineToken
line_token limits tokens at o = line_token_by limits (kind_at tokens at) tokens at o

abbrev pub with_token : Option LineToken → List LineToken → List LineToken
with_token None line = line
with_token (Some t) line = line ++ t ∷ []

abbrev pub with_next : Out × Option LineToken → List LineToken → Out × List LineToken
with_next t line = (t.0, with_token t.1 line)

-- the tokens before a place, which are used
abbrev pub line_tokens : Limits → ℕ → List SourceToken → Out → Out × List LineToken
line_tokens limits zero tokens o = (o, [])
line_tokens limits (suc at) tokens o = let line = line_tokens limits at tokens o in with_next (line_token limits tokens at line.0) line.1

-- Definitions of a line

-- the last arrow is the one before the action
abbrev pub arrow_or : List SourceToken → ℕ → ℕ → ℕ
arrow_or tokens at other = if is_mark_at tokens at Mark.Arrow then at else other

abbrev pub arrow_before : ℕ → List SourceToken → ℕ
arrow_before zero tokens = 0
arrow_before (suc at) tokens = arrow_or tokens at (arrow_before at tokens)

abbrev pub arrow_in : List SourceToken → ℕ
arrow_in tokens = arrow_before (length tokens) tokens

abbrev pub action_by : Limits → Option Name → Out → Out × ℕ
action_by limits None o = (o, 0)
action_by limits (Some n) o = action_of limits n.bytes n.place o

-- whether `reverse` comes behind the action
abbrev pub is_reverse : List SourceToken → ℕ → Bool
is_reverse tokens arrow = nat_lt 2 (length tokens - arrow)

-- The line is one of the verb whose lines are read. Where there would be too many lines, that limit is passed.
abbrev pub one_line_by : Limits → Option LineFault → ℕ → LinePlace → LineOf → Code
one_line_by limits None number place line o = with_verbs (with_line_of number place line o.tables.verbs) o
one_line_by limits (Some f) number place line o = passed_table limits Setting.GrammarLines o

abbrev pub one_line : Limits → ℕ → LinePlace → LineOf → Code
one_line limits number place line o =
    if has_verb number o then one_line_by limits (line_fault_of limits (length line.tokens) o.tables.verbs) number place line o else o

abbrev pub line_kept_by : Limits → Option ℕ → LinePlace → LineOf → Code
line_kept_by limits None place line o = o
line_kept_by limits (Some number) place line o = one_line limits number place line o

abbrev pub line_kept : Limits → Extending → LineOf → Code
line_kept limits e line o = line_kept_by limits e.verb e.place line o

abbrev pub line_with : Limits → Extending → List LineToken → Bool → Out × ℕ → Out
line_with limits e taken is_reverse action =
    line_kept limits e (record { action = action.1; is_reverse = is_reverse; tokens = taken }) action.0

abbrev pub line_behind : Limits → Extending → List SourceToken → ℕ → Out × List LineToken → Out
line_behind limits e tokens arrow line =
    line_with limits e line.1 (is_reverse tokens arrow) (action_by limits (name_at tokens (next_place arrow)) line.0)

abbrev pub line_added : Limits → Extending → List SourceToken → ℕ → Code
line_added limits e tokens arrow o = line_behind limits e tokens arrow (line_tokens limits arrow tokens o)

abbrev pub line_laid : Limits → Option Finding → ℕ → Compilation → Compilation
line_laid limits (Some f) arrow w = w
line_laid limits None arrow w = record w { output = line_added limits w.extending w.unit.tokens arrow w.output }

abbrev pub line_found : Limits → Context → Place → Option Finding → ℕ → Compilation → Compilation
line_found limits context first found arrow w = verb_ended limits context first found (line_laid limits found arrow w)

abbrev pub line_judged : Limits → Context → Place → ℕ → Compilation → Compilation
line_judged limits context first arrow w = line_found limits context first (tokens_finding arrow w.unit.tokens w.output.names) arrow w

abbrev pub line_ended : Limits → Context → Place → Compilation → Compilation
line_ended limits context place w = line_judged limits context (first_place w.unit.tokens place) (arrow_in w.unit.tokens) w

-- Definitions of a fake action

abbrev pub fake_findings : Option Again → Findings
fake_findings again = record (found_alone (again_finding 1 again)) { again = again }

abbrev pub fake_with : Limits → Context → Place → Name → Out × Option (DeclareFault Place) → Compilation → Compilation
fake_with limits context first name f w =
    unit_ended limits context first true (fake_findings (again_by name f.1)) (record w { output = f.0 })

abbrev pub fake_action : Limits → Context → Place → List Name → Compilation → Compilation
fake_action limits context first [] w = passed true w
fake_action limits context first (name ∷ names) w = fake_with limits context first name (faked limits name.bytes name.place w.output) w

-- Lines that have more tokens than the grammar may have bytes. If nothing is wrong with a line of this kind, it passes that setting.

-- whether a name is a noun of the language at its place in a line
abbrev pub is_noun : Named → List ℕ → Bool
is_noun Named.Alone name = is_some (noun_named name)
is_noun _ name = false

-- the token at a place, which ends a token of the line, comes, and whether it is new
abbrev pub token_brought_by : Option TokenKind → Settings → List SourceToken → ℕ → LongLine → LongLine × Bool
token_brought_by (Some (TokenKind.Word word)) settings tokens at l =
    word_added word.text (setting_number Setting.DictionaryEntries settings) l
token_brought_by (Some TokenKind.Name) settings tokens at l =
    if is_noun (named_at tokens at) (bytes_at tokens at) then (l, false)
    else name_added (bytes_at tokens at) (setting_number Setting.Symbols settings) l
token_brought_by _ settings tokens at l = (l, false)

abbrev pub token_brought : Settings → List SourceToken → ℕ → LongLine → LongLine × Bool
token_brought settings tokens at l = token_brought_by (kind_at tokens at) settings tokens at l

abbrev pub last_brought_by : Option LongLine → Settings → Unit → Unit × Bool
last_brought_by None settings u = (u, false)
last_brought_by (Some l) settings u =
    let r = token_brought settings u.tokens (last_leaf u) l in (record u { long = Some r.0 }, r.1)

abbrev pub last_brought : Settings → Unit → Unit × Bool
last_brought settings u = last_brought_by u.long settings u

-- the finding about the last token, with which the word before a sign is looked at again; and that about all tokens so far, where the line
-- was not too long before
abbrev pub last_finding : Unit → Table Place → Option Finding
last_finding u names = least_of_both (token_finding u.tokens (last_leaf u - 2) names) (token_finding u.tokens (last_leaf u) names)

abbrev pub new_finding_by : Option LongLine → Unit → Table Place → Option Finding
new_finding_by None u names = tokens_finding (length u.tokens) u.tokens names
new_finding_by (Some l) u names = last_finding u names

abbrev pub new_finding : Unit → Table Place → Option Finding
new_finding u names = new_finding_by u.long u names

-- A token ends. It is kept where it is wrong, or new.
abbrev pub token_sifted : Context → Compilation → Compilation
token_sifted context w =
    let r = last_brought context.settings w.unit in record w { unit = sifted (is_some (new_finding w.unit w.output.names)) r.1 r.0 }

-- Words of the header of a verb that has more tokens than there may be words. With as many different words it passes that setting. Once a
-- word came twice, the header is wrong at that word or before it, and nothing behind it matters.

-- the last token, a word, comes, and whether it came before
abbrev pub word_again : LongLine × Bool → Unit → Unit × Bool
word_again r u = (record u { long = Some r.0 }, not r.1)

abbrev pub word_came_in : Option LongLine → DictionaryWord → Unit → Unit × Bool
word_came_in None word u = (u, false)
word_came_in (Some l) word u = if l.is_bad then (u, false) else word_again (word_added word.text 4294967295 l) u

abbrev pub word_came_by : Option DictionaryWord → Unit → Unit × Bool
word_came_by None u = (u, false)
word_came_by (Some word) u = word_came_in u.long word u

abbrev pub word_came : Unit → Unit × Bool
word_came u = word_came_by (word_at u.tokens (last_leaf u)) u

abbrev pub word_sifted : Compilation → Compilation
word_sifted w = let r = word_came w.unit in record w { unit = sifted r.1 true r.0 }
