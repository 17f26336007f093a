-- The directives `Verb`, `Extend` and `Fake_action` with their lines; all directives, headers, notes and actions of the grammar; and the
-- cut that a bad token makes.
use Rattle.std.specs.Prelude.{if◌then◌else◌, length, slice_index_or, slice_set, ◌+◌}
use Rattle.std.proofs.Common.{Bool, List, None, Option, Some, [], false, refl, suc, true, zero, ℕ, ◌&&◌, ◌∷◌, ◌≡◌}
use Rattle.inf_expressions.specs.declared.findings.Finding.{Finding}
use Rattle.inf_scanner.specs.{declared.tokens.DictionaryWord.DictionaryWord, declared.tokens.Place.Place}
use Rattle.inf_scanner.specs.{declared.tokens.TokenKind.TokenKind}
use Rattle.inf_settings.specs.{Bounds.Limits, declared.setting.Setting.Setting}
use Rattle.inf_dictionary.specs.declared.uses.WordUse.{WordUse}
use Rattle.inf_verbs.specs.{Lines.LineOf, Lines.token_value, declared.lines.LineToken.LineToken, declared.lines.Noun.Noun}
use Rattle.inf_verbs.specs.{declared.verbs.LineFault.LineFault, declared.verbs.LinePlace.LinePlace, declared.verbs.VerbFault.VerbFault}
use Rattle.inf_verbs.specs.Verbs.{AllVerbs, VerbOf, add_fault, extended, line_fault_of, no_lines, verb_at, with_extended, with_line}
use Rattle.inf_verbs.specs.Verbs.{with_line_of, with_verb}
use Rattle.inf_names.specs.{Spellings.Name, Symbols.found_in, Symbols.refer_fault}
use Rattle.inf_output.specs.{Actions.faked, Actions.routine_referred, Output.Out}
use Rattle.inf_syntax.specs.declared.actions.Action.{Action}
use Rattle.inf_unit.specs.{Messages.location, Messages.with_words, Tokens.SourceToken, declared.directives.Directive.Directive}
use Rattle.inf_unit.specs.{declared.roles.Ending.Ending, declared.roles.Note.Note, declared.roles.Role.Role}
use Rattle.inf_unit.specs.Directives.{End, Include, directive_of, weight_of}
use Rattle.inf_unit.specs.Roles.{ends_outer, ends_token, ends_value, is_arrow, is_text, is_verb_word, makes_sure, role_of}
use Rattle.inf_unit.specs.Units.{bytes_at, directive_word, first_place, is_full, kind_at, name_at, name_order, names_in, next_place}
use Rattle.inf_unit.specs.Units.{noted as unit_noted, quoted_in, stepped, taken as unit_taken}
use Rattle.inf_constructs.specs.Cases.{within}
use Rattle.inf_compilation.specs.{Context.Context, Crowds.value_sifted, Findings.again_by, Findings.nothing_found}
use Rattle.inf_compilation.specs.{declared.compilation.Extending.Extending}
use Rattle.inf_compilation.specs.Actions.{Compilation, body_ended, code_begun, cut, given_up, is_deep, opening_checked, opening_checked_at}
use Rattle.inf_compilation.specs.Actions.{opens, sized, token_checked, took, words_of}
use Rattle.inf_parts.specs.{Parts.statement_at, declared.parts.Part.Part}
use Rattle.inf_verb_lines.specs.{declared.lines.Named.Named, declared.verbs.VerbHead.VerbHead}
use Rattle.inf_verb_lines.specs.Verbs.{action_by, arrow_in, attribute_in, extend_header, extend_with, fake_action, fake_findings, has_verb}
use Rattle.inf_verb_lines.specs.Verbs.{head_finding, header_opened, is_reverse, like_used, line_added, line_ended, line_kept_by, line_laid}
use Rattle.inf_verb_lines.specs.Verbs.{line_token, line_token_by, line_tokens, lines_extended, lines_of, lone_by, name_token, named_at}
use Rattle.inf_verb_lines.specs.Verbs.{new_verb, new_verb_by, no_verb_finding, noun_named, one_line, one_line_by, parsing_as}
use Rattle.inf_verb_lines.specs.Verbs.{parsing_routine, place_named, tokens_finding, verb_begun, verb_extended, verb_findings, verb_head}
use Rattle.inf_verb_lines.specs.Verbs.{verb_header, verb_named, verb_opened, verb_use, with_token, with_verbs, word_at, word_used}
use Rattle.inf_verb_lines.specs.Verbs.{words_given, words_used}
use Rattle.inf_reader.specs.declared.headers.Heading.{Heading}
use Rattle.inf_reader.specs.Acting.{act, acted, all_acted, cut_at, ended, held_ended, is_crowded, is_long, is_tall, is_wordy, kind_of}
use Rattle.inf_reader.specs.Acting.{noted, noted_of, played}
use Rattle.inf_reader.specs.Directives.{carried_out, code_begun_by, directive_end, directive_of_names, fit_ended, limits_told}
use Rattle.inf_reader.specs.Headers.{class_named, directive_header, header_as, header_ended, heading_of}
use Rattle.inf_word_laws.proofs.Numbering.{IsWithin}
use Rattle.inf_step_walk.specs.Standing.{Before, TokensStand, ValueStands, VerbStands, VerbsStand}
use Rattle.inf_step_walk.specs.Walking.{After, Asks, Begins, Behind, Checks, Ends, Follows, GivesUp, Grown, Joins, Leaves, Lies, Nests}
use Rattle.inf_step_walk.specs.Walking.{Passes, Premises, Puts, Refers, Rests, Says, Sizes, Stays, Tables, Uses, Walks, free, with_report}
use Rattle.inf_step_walk.proofs.{Lists.referred_within, Lists.routine_among, Operands.action_grows, Operands.faked_grows}
use Rattle.inf_step_walk.proofs.{Outputs.word_stands, Pieces.before, Premises.all_join}
use Rattle.inf_step_walk.proofs.Bodies.{attribute_read_steps, class_read_steps, class_steps, embedded_read_steps, object_steps}
use Rattle.inf_step_walk.proofs.Bodies.{property_read_steps, value_read_steps}
use Rattle.inf_step_walk.proofs.Declaring.{abbreviate_steps, abbreviation_steps, array_steps, attribute_steps, entry_steps, global_steps}
use Rattle.inf_step_walk.proofs.Declaring.{low_string_steps, property_steps, release_steps, serial_steps, switches_steps}
use Rattle.inf_step_walk.proofs.Units.{close_steps, closing_steps, constant_steps, default_steps, header_steps, opening_steps, part_steps}
use Rattle.inf_step_walk.proofs.Units.{passed_steps, puts, replace_steps, rests, stays, steps_if, stub_steps, unit_ends, unit_steps}

-- Verbs, whose lines stand

verbs_grow : {limits : Limits} {Q : Premises} {o : Out} (verbs : AllVerbs)
    → ((u : Out) → Before u o → VerbsStand u o.tables.verbs.list → VerbsStand u verbs.list) → Grown limits Q o (with_verbs verbs o)
verbs_grow {limits} {Q} {o} verbs f = Tables {p = with_verbs verbs o} Stays refl (λ u b e h. (
  record {
    of_arrays = h.0.of_arrays;
    of_globals = h.0.of_globals;
    of_verbs = f u b h.0.of_verbs;
    of_actions = h.0.of_actions;
    of_parsing = h.0.of_parsing;
  },
  h.1,
))

verbs_set : (u : Out) (verbs : List VerbOf) (number : ℕ) (verb : VerbOf) → VerbStands u verb → VerbsStand u verbs
    → VerbsStand u (slice_set verbs number verb)
verbs_set u [] number verb s h = tt
verbs_set u (v ∷ verbs) zero verb s h = (s, h.1)
verbs_set u (v ∷ verbs) (suc number) verb s h = (h.0, verbs_set u verbs number verb s h.1)

verb_stands : (u : Out) (verbs : List VerbOf) (number : ℕ) → VerbsStand u verbs → VerbStands u (slice_index_or verbs number no_lines)
verb_stands u [] number h = (tt, tt)
verb_stands u (v ∷ verbs) zero h = h.0
verb_stands u (v ∷ verbs) (suc number) h = verb_stands u verbs number h.1

extended_stands : (u : Out) (place : LinePlace) (verb : VerbOf) → VerbStands u verb → VerbStands u (extended place verb)
extended_stands u LinePlace.First verb h = (tt, all_join (λ (line : LineOf). TokensStand u line.tokens) verb.first verb.rest h.0 h.1)
extended_stands u LinePlace.Last verb h = h
extended_stands u LinePlace.Replace verb h = (tt, tt)

line_stands : (u : Out) (place : LinePlace) (line : LineOf) (verb : VerbOf) → TokensStand u line.tokens → VerbStands u verb
    → VerbStands u (with_line place line verb)
line_stands u LinePlace.First line verb s h =
    (all_join (λ (line : LineOf). TokensStand u line.tokens) verb.first (line ∷ []) h.0 (s, tt), h.1)
line_stands u LinePlace.Last line verb s h =
    (h.0, all_join (λ (line : LineOf). TokensStand u line.tokens) verb.rest (line ∷ []) h.1 (s, tt))
line_stands u LinePlace.Replace line verb s h =
    (h.0, all_join (λ (line : LineOf). TokensStand u line.tokens) verb.rest (line ∷ []) h.1 (s, tt))

module _ {limits : Limits} {Q : Premises} where
  -- The header of `Verb`

  new_grows : (o : Out) → Grown limits Q o (new_verb limits o).0
  new_grows o = go (add_fault limits o.tables.verbs)
    where
      go : (f : Option VerbFault) → Grown limits Q o (new_verb_by limits f o).0
      go None =
          verbs_grow (with_verb o.tables.verbs) (λ u b h. all_join (VerbStands u) o.tables.verbs.list (no_lines ∷ []) h ((tt, tt), tt))
      go (Some VerbFault.TooMany) = Stays
      go (Some VerbFault.Full) = Passes Setting.Verbs
      go (Some VerbFault.NoSpace) = Passes Setting.GrammarLines
      go (Some VerbFault.Memory) = Stays

  begun_grows : (like : Option ℕ) (tokens : List SourceToken) (o : Out) → Grown limits Q o (verb_begun limits like tokens o).0
  begun_grows None tokens o = new_grows o
  begun_grows (Some at) tokens o = Stays

  word_grows : (word : Option DictionaryWord) (how : WordUse) (o : Out) → Grown limits Q o (word_used limits word how o)
  word_grows None how o = Stays
  word_grows (Some word) how o = Uses word.text how word.is_plural

  words_grow : (at : ℕ) (tokens : List SourceToken) (how : WordUse) (o : Out) → Grown limits Q o (words_used limits at tokens how o)
  words_grow zero tokens how o = Stays
  words_grow (suc at) tokens how o =
      Follows (words_grow at tokens how o) (word_grows (word_at tokens at) how (words_used limits at tokens how o))

  like_grows : (like : Option ℕ) (tokens : List SourceToken) (number : ℕ) (o : Out)
      → Grown limits Q o (like_used limits like tokens number o)
  like_grows None tokens number o = Stays
  like_grows (Some at) tokens number o = word_grows (word_at tokens at) (WordUse.Verb number) o

  given_grows : (number : Option ℕ) (head : VerbHead) (tokens : List SourceToken) (o : Out)
      → Grown limits Q o (words_given limits number head tokens o)
  given_grows None head tokens o = Stays
  given_grows (Some number) head tokens o = Follows (words_grow head.end tokens (verb_use number head.is_meta) o)
      (like_grows head.like tokens number (words_used limits head.end tokens (verb_use number head.is_meta) o))

  opened_grows : (head : VerbHead) (tokens : List SourceToken) (o : Out) → Grown limits Q o (verb_opened limits head tokens o).0
  opened_grows head tokens o =
      let b = verb_begun limits head.like tokens o in Follows (begun_grows head.like tokens o) (given_grows b.1.words head tokens b.0)

  header_lays : (told : Option Finding) (head : VerbHead) (w : Compilation) → Lies limits Q w (header_opened limits told head) w
  header_lays (Some f) head w r = Puts Stays (λ u h. h) refl
  header_lays None head w r = Puts (opened_grows head w.unit.tokens w.output) (λ u h. h) refl

  -- The header of `Extend`

  lines_grow : (number : ℕ) (place : LinePlace) (o : Out) → Grown limits Q o (lines_extended number place o)
  lines_grow number place o = go (has_verb number o)
    where
      go : (b : Bool) → Grown limits Q o (if b then with_verbs (with_extended number place o.tables.verbs) o else o)
      go true = verbs_grow (with_extended number place o.tables.verbs)
          (λ u b h. verbs_set u o.tables.verbs.list number (extended place (verb_at number o.tables.verbs))
          (extended_stands u place (verb_at number o.tables.verbs) (verb_stands u o.tables.verbs.list number h)) h)
      go false = Stays

  extended_grows : (number : Option ℕ) (place : LinePlace) (word : Option DictionaryWord) (o : Out)
      → Grown limits Q o (verb_extended limits number place word o)
  extended_grows None place word o = Stays
  extended_grows (Some number) place word o =
      Follows (word_grows word (WordUse.Verb number) o) (lines_grow number place (word_used limits word (WordUse.Verb number) o))

  -- Tokens of a line

  parsing_as_grows : (routine : Option ℕ) (o : Out) → ((u : Out) → Before u o → IsWithin routine (length u.names.names))
      → Grown limits Q o (parsing_as routine o).0
  parsing_as_grows None o within = Stays
  parsing_as_grows (Some routine) o within = Tables {p = (parsing_as (Some routine) o).0} Stays refl (λ u b e h. (
    record {
      of_arrays = h.0.of_arrays;
      of_globals = h.0.of_globals;
      of_verbs = h.0.of_verbs;
      of_actions = h.0.of_actions;
      of_parsing = routine_among u routine o.tables.parsing (within u b) h.0.of_parsing;
    },
    h.1,
  ))

  parsing_grows : (name : Option Name) (o : Out) → Grown limits Q o (parsing_routine limits name o).0
  parsing_grows None o = Stays
  parsing_grows (Some n) o =
      let r = routine_referred limits n.bytes n.place o in
      Follows {p = r.0} (Refers n.bytes n.place)
      (parsing_as_grows r.1 r.0 (λ u b. referred_within u limits (refer_fault limits n.bytes o.names) n.bytes n.place o b))

  lone_grows : (n : Option Noun) (attribute : Option ℕ) (name : Option Name) (o : Out)
      → Grown limits Q o (lone_by limits n attribute name o).0
  lone_grows (Some n) attribute name o = Stays
  lone_grows None (Some number) name o = Stays
  lone_grows None None name o = parsing_grows name o

  name_grows : (n : Named) (tokens : List SourceToken) (at : ℕ) (o : Out) → Grown limits Q o (name_token limits n tokens at o).0
  name_grows Named.Sign tokens at o = Stays
  name_grows Named.Filter tokens at o = parsing_grows (name_at tokens at) o
  name_grows Named.Scope tokens at o = parsing_grows (name_at tokens at) o
  name_grows Named.Alone tokens at o =
      lone_grows (noun_named (bytes_at tokens at)) (attribute_in (found_in (bytes_at tokens at) o.names)) (name_at tokens at) o

  token_grows : (k : Option TokenKind) (tokens : List SourceToken) (at : ℕ) (o : Out)
      → Grown limits Q o (line_token_by limits k tokens at o).0
  token_grows (Some (TokenKind.Word word)) tokens at o = Uses word.text WordUse.Preposition word.is_plural
  token_grows (Some TokenKind.Name) tokens at o = name_grows (named_at tokens at) tokens at o
  token_grows _ tokens at o = Stays

  tokens_grow : (at : ℕ) (tokens : List SourceToken) (o : Out) → Grown limits Q o (line_tokens limits at tokens o).0
  tokens_grow zero tokens o = Stays
  tokens_grow (suc at) tokens o =
      let line = line_tokens limits at tokens o in
      Follows {p = line.0} (tokens_grow at tokens o) (token_grows (kind_at tokens at) tokens at line.0)

  -- Lines

  action_by_grows : (name : Option Name) (o : Out) → Grown limits Q o (action_by limits name o).0
  action_by_grows None o = Stays
  action_by_grows (Some n) o = action_grows n.bytes n.place o

  one_by_grows : (f : Option LineFault) (number : ℕ) (place : LinePlace) (line : LineOf) (o : Out)
      → ((u : Out) → Before u o → TokensStand u line.tokens) → Grown limits Q o (one_line_by limits f number place line o)
  one_by_grows None number place line o stands = verbs_grow (with_line_of number place line o.tables.verbs)
      (λ u b h. verbs_set u o.tables.verbs.list number (with_line place line (verb_at number o.tables.verbs))
      (line_stands u place line (verb_at number o.tables.verbs) (stands u b) (verb_stands u o.tables.verbs.list number h)) h)
  one_by_grows (Some f) number place line o stands = Passes Setting.GrammarLines

  one_grows : (number : ℕ) (place : LinePlace) (line : LineOf) (o : Out) → ((u : Out) → Before u o → TokensStand u line.tokens)
      → Grown limits Q o (one_line limits number place line o)
  one_grows number place line o stands = go (has_verb number o)
    where
      f : Option LineFault
      f = line_fault_of limits (length line.tokens) o.tables.verbs

      go : (b : Bool) → Grown limits Q o (if b then one_line_by limits f number place line o else o)
      go true = one_by_grows f number place line o stands
      go false = Stays

  kept_grows : (number : Option ℕ) (place : LinePlace) (line : LineOf) (o : Out) → ((u : Out) → Before u o → TokensStand u line.tokens)
      → Grown limits Q o (line_kept_by limits number place line o)
  kept_grows None place line o stands = Stays
  kept_grows (Some number) place line o stands = one_grows number place line o stands

-- the words among the tokens of a line, behind their use

abbrev MaybeToken : Out → Option LineToken → Type 0
MaybeToken u None = Unit {0}
MaybeToken u (Some t) = ValueStands u (token_value t)

lone_stands : (limits : Limits) (u : Out) (n : Option Noun) (attribute : Option ℕ) (name : Option Name) (o : Out)
    → MaybeToken u (lone_by limits n attribute name o).1
lone_stands limits u (Some n) attribute name o = tt
lone_stands limits u None (Some number) name o = tt
lone_stands limits u None None name o = tt

name_stands : (limits : Limits) (u : Out) (n : Named) (tokens : List SourceToken) (at : ℕ) (o : Out)
    → MaybeToken u (name_token limits n tokens at o).1
name_stands limits u Named.Alone tokens at o =
    lone_stands limits u (noun_named (bytes_at tokens at)) (attribute_in (found_in (bytes_at tokens at) o.names)) (name_at tokens at) o
name_stands limits u n tokens at o = tt

token_stands : (limits : Limits) (u : Out) (k : Option TokenKind) (tokens : List SourceToken) (at : ℕ) (o : Out)
    → Before u (line_token_by limits k tokens at o).0 → MaybeToken u (line_token_by limits k tokens at o).1
token_stands limits u (Some (TokenKind.Word word)) tokens at o e = word_stands limits u word.text WordUse.Preposition word.is_plural o e
token_stands limits u (Some TokenKind.Name) tokens at o e = name_stands limits u (named_at tokens at) tokens at o
token_stands limits u _ tokens at o e = tt

with_token_stands : (u : Out) (t : Option LineToken) (tokens : List LineToken) → MaybeToken u t → TokensStand u tokens
    → TokensStand u (with_token t tokens)
with_token_stands u None tokens s h = h
with_token_stands u (Some t) tokens s h = all_join (λ (t : LineToken). ValueStands u (token_value t)) tokens (t ∷ []) h (s, tt)

tokens_stand : (limits : Limits) (u : Out) (at : ℕ) (tokens : List SourceToken) (o : Out) → Before u (line_tokens limits at tokens o).0
    → TokensStand u (line_tokens limits at tokens o).1
tokens_stand limits u zero tokens o e = tt
tokens_stand limits u (suc at) tokens o e =
    let line = line_tokens limits at tokens o in
    with_token_stands u (line_token limits tokens at line.0).1 line.1 (token_stands limits u (kind_at tokens at) tokens at line.0 e)
    (tokens_stand limits u at tokens o (before {limits = limits} {Q = free} (token_grows (kind_at tokens at) tokens at line.0) u e))

module _ {limits : Limits} {Q : Premises} where
  added_grows : (e : Extending) (tokens : List SourceToken) (arrow : ℕ) (o : Out) → Grown limits Q o (line_added limits e tokens arrow o)
  added_grows e tokens arrow o =
      let line = line_tokens limits arrow tokens o in
      let action = action_by limits (name_at tokens (next_place arrow)) line.0 in
      let whole : LineOf = record { action = action.1; is_reverse = is_reverse tokens arrow; tokens = line.1 } in
      let acts : Grown limits Q line.0 action.0 = action_by_grows (name_at tokens (next_place arrow)) line.0 in
      Follows {p = line.0} (tokens_grow arrow tokens o) (Follows {p = action.0} acts
      (kept_grows e.verb e.place whole action.0 (λ u b. tokens_stand limits u arrow tokens o (before acts u b))))

  line_lays : (told : Option Finding) (arrow : ℕ) (w : Compilation) → Lies limits Q w (line_laid limits told arrow) w
  line_lays (Some f) arrow w = rests w
  line_lays None arrow w =
      puts (line_added limits w.extending w.unit.tokens arrow w.output) (added_grows w.extending w.unit.tokens arrow w.output)

module _ {limits : Limits} {context : Context} {Q : Premises} where
  pub verb_steps : (first : Place) (w : Compilation) → Walks limits context Q (verb_header limits context first) w
  verb_steps first w r =
      let head = verb_head w.unit.tokens in
      let found = head_finding head w.unit.tokens w.output in
      Ends first false (verb_findings found) (header_opened limits found head w) (header_lays found head w r)

  extend_with_steps : (first : Place) (at : ℕ) (number : Option ℕ) (place : LinePlace) (w : Compilation)
      → Walks limits context Q (extend_with limits context first at number place) w
  extend_with_steps first at number place w r = Ends first false (verb_findings (no_verb_finding at number)) (record w {
    extending = lines_of number place;
    output = verb_extended limits number place (word_at w.unit.tokens at) w.output;
  }) (Puts (extended_grows number place (word_at w.unit.tokens at) w.output) (λ u h. h) refl)

  pub extend_steps : (first : Place) (w : Compilation) → Walks limits context Q (extend_header limits context first) w
  extend_steps first w =
      let at = name_order w.unit.tokens in
      extend_with_steps first at (verb_named w.unit.tokens at w.output) (place_named (bytes_at w.unit.tokens (at + 1))) w

  pub line_steps : (place : Place) (w : Compilation) → Walks limits context Q (line_ended limits context place) w
  line_steps place w r =
      let arrow = arrow_in w.unit.tokens in
      let found = tokens_finding arrow w.unit.tokens w.output.names in
      Ends (first_place w.unit.tokens place) false (verb_findings found) (line_laid limits found arrow w) (line_lays found arrow w r)

  -- Fake actions

  pub fake_steps : (first : Place) (names : List Name) (w : Compilation) → Walks limits context Q (fake_action limits context first names) w
  fake_steps first [] w r = passed_steps true w r
  fake_steps first (name ∷ names) w r =
      let f = faked limits name.bytes name.place w.output in
      Ends first true (fake_findings (again_by name f.1)) (record w { output = f.0 })
      (puts f.0 (faked_grows name.bytes name.place w.output) r)

module _ {limits : Limits} {context : Context} {Q : Premises} where
  -- Directives

  fit_ends : (first : Place) (w : Compilation) → Walks limits context Q (fit_ended limits context first) w
  fit_ends first w = unit_ends first true nothing_found w

  carried_steps : (d : Directive) (first : Place) (names : List Name) (w : Compilation) → Q Ending.Directive
      → Walks limits context Q (carried_out limits d context first names) w
  carried_steps Directive.Include first names w q r =
      let request = Include (quoted_in w.unit.tokens) first in
      After {x = record w { asked = request }} (Asks request q) (fit_ends first (record w { asked = request }) r)
  carried_steps Directive.Message first names w q r =
      let words = words_of context.set w.unit in
      let tell = with_words (location context.names first) (weight_of names) words in
      After {x = with_report (tell w.report) w} (Says first (weight_of names) words)
      (fit_ends first (with_report (tell w.report) w) (tell r))
  carried_steps Directive.End first names w q r =
      After {x = record w { asked = End }} (Asks End q) (fit_ends first (record w { asked = End }) r)
  carried_steps Directive.Constant first names w q r = constant_steps first names w r
  carried_steps Directive.Replace first names w q r = replace_steps first names w r
  carried_steps Directive.Stub first names w q r = stub_steps first names w r
  carried_steps Directive.Default first names w q r = default_steps first names w r
  carried_steps Directive.Attribute first names w q r = attribute_steps first names w r
  carried_steps Directive.Property first names w q r = property_steps first names w r
  carried_steps Directive.Global first names w q r = global_steps first names w r
  carried_steps Directive.FakeAction first names w q r = fake_steps first names w r
  carried_steps Directive.Switches first names w q r = switches_steps first names w q r
  carried_steps Directive.Lowstring first names w q r = low_string_steps first names w r
  carried_steps Directive.Release first names w q r = release_steps first w r
  carried_steps Directive.Serial first names w q r = serial_steps first w r
  carried_steps Directive.SystemFile first names w q r =
      After {x = record w { is_system = true }} {s = r} (Rests (λ u h. h) refl) (fit_ends first (record w { is_system = true }) r)

  -- the limits are told behind a directive, with which code begins or not
  worked_steps : (d : Directive) (first : Place) (names : List Name) (w : Compilation) → Q Ending.Directive → Walks limits context Q
      (λ w. limits_told limits context first (carried_out limits d context first names (code_begun_by limits d w))) w
  worked_steps Directive.Switches first names w q r =
      Behind (limits_told limits context first) (carried_steps Directive.Switches first names w q r) (λ s. Checks first)
  worked_steps d first names w q r = Begins first (carried_steps d first names (code_begun limits w) q r)

  names_steps : (first : Place) (names : List Name) (w : Compilation) → Q Ending.Directive
      → Walks limits context Q (λ w. limits_told limits context first (directive_of_names limits context first names w)) w
  names_steps first [] w q r = Behind (limits_told limits context first) (passed_steps true w r) (λ s. Checks first)
  names_steps first (word ∷ names) w q r = worked_steps (directive_of (directive_word w.unit.tokens)) first names w q r

  directive_steps : (place : Place) (w : Compilation) → Q Ending.Directive → Walks limits context Q (directive_end limits context place) w
  directive_steps place w q = names_steps (first_place w.unit.tokens place) (names_in w.unit.tokens) w q

  -- Lemmas about headers

  class_named_steps : (first : Place) (names : List Name) (w : Compilation)
      → Walks limits context Q (class_named limits context first names) w
  class_named_steps first [] w = passed_steps false w
  class_named_steps first (name ∷ names) w = class_steps first name w

  as_steps : (h : Heading) (first : Place) (names : List Name) (w : Compilation)
      → Walks limits context Q (header_as limits h context first names) w
  as_steps Heading.Array first names w = array_steps first names w
  as_steps Heading.Class first names w = class_named_steps first names w
  as_steps Heading.Object first names w = object_steps first w
  as_steps Heading.Verb first names w = verb_steps first w
  as_steps Heading.Extend first names w = extend_steps first w
  as_steps Heading.Abbreviate first names w = abbreviate_steps first w

  heading_steps : (first : Place) (names : List Name) (w : Compilation)
      → Walks limits context Q (directive_header limits context first names) w
  heading_steps first [] w = passed_steps false w
  heading_steps first (word ∷ names) w = as_steps (heading_of (directive_word w.unit.tokens)) first names w

  header_ended_steps : (place : Place) (w : Compilation) → Walks limits context Q (header_ended limits context place) w
  header_ended_steps place w r =
      let first = first_place w.unit.tokens place in
      Begins first (heading_steps first (names_in w.unit.tokens) (code_begun limits w) r)

  -- Lemmas about notes

  note_steps : (n : Note) (w : Compilation) → Walks limits context Q (noted_of context n) w
  note_steps n w r =
      let v = record w { unit = unit_noted n w.unit } in
      After {x = v} {s = r} (unit_steps w (unit_noted n w.unit) r) (steps_if (makes_sure n) Sizes (stays v r))

  noted_steps : (n : Note) (w : Compilation) → Walks limits context Q (noted limits context n) w
  noted_steps n w r = steps_if (is_text n && is_crowded limits w) (unit_steps w _ r)
      (steps_if (is_arrow n && is_tall context w) (unit_steps w _ r)
      (steps_if (ends_outer n && is_full w.unit) (Rests (λ u h. h) refl)
      (steps_if (ends_token n && is_long context w) (Rests (λ u h. h) refl)
      (steps_if (ends_value n && is_crowded limits w)
      (Behind (value_sifted context) (note_steps n w r) (λ s. Rests {v = value_sifted context (noted_of context n w)} (λ u h. h) refl))
      (steps_if (is_verb_word n && is_wordy context w) (Rests (λ u h. h) refl)
      (note_steps n w r))))))

  -- Lemmas about actions

  ended_steps : (place : Place) (e : Ending) (w : Compilation) → Q e → Walks limits context Q (ended limits context place e) w
  ended_steps place Ending.Locals w q r = header_steps place w r
  ended_steps place Ending.Embedded w q r = embedded_read_steps place w r
  ended_steps place Ending.Routine w q r = close_steps place w r
  ended_steps place Ending.Directive w q r = directive_steps place w q r
  ended_steps place Ending.Header w q r = header_ended_steps place w r
  ended_steps place Ending.Body w q r = Leaves
  ended_steps place Ending.Class w q r = class_read_steps place w r
  ended_steps place Ending.Attribute w q r = attribute_read_steps place w r
  ended_steps place Ending.Property w q r = property_read_steps place w r
  ended_steps place Ending.Value w q r = value_read_steps place w r
  ended_steps place Ending.Line w q r = line_steps place w r
  ended_steps place Ending.Abbreviation w q r = abbreviation_steps place w q r
  ended_steps place Ending.Entry w q r = entry_steps place false w r
  ended_steps place Ending.Alone w q r = entry_steps place true w r
  ended_steps place Ending.Statement w q r = part_steps place (Part.Statement (statement_at w)) w r
  ended_steps place Ending.Condition w q r = part_steps place Part.Condition w r
  ended_steps place Ending.Start w q r = part_steps place Part.Start w r
  ended_steps place Ending.Step w q r = part_steps place Part.Step w r
  ended_steps place Ending.Loop w q r = part_steps place Part.Loop w r
  ended_steps place Ending.Switched w q r = part_steps place Part.Switched w r
  ended_steps place Ending.Case w q r = part_steps place Part.Case w r

  played_steps : (place : Place) (role : Role) (w : Compilation) → ((e : Ending) → role ≡ Role.End e → Q e)
      → Walks limits context Q (played limits context place role) w
  played_steps place (Role.Gather s) w q r = unit_steps w (stepped s w.unit) r
  played_steps place (Role.Note n) w q r = noted_steps n w r
  played_steps place (Role.End e) w q r = ended_steps place e w (q e refl) r
  played_steps place (Role.Open o) w q r = opening_steps place (kind_of o) w r
  played_steps place Role.Join w q r = Joins
  played_steps place Role.Close w q r = closing_steps w r
  played_steps place Role.Deeper w q r = Nests place (is_deep w 1)
  played_steps place Role.MaybeDeeper w q r = Rests (λ u h. h) refl
  played_steps place Role.Nothing w q r = stays w r

  pub act_steps : (place : Place) (a : Action) (w : Compilation) → ((e : Ending) → role_of a ≡ Role.End e → Q e)
      → Walks limits context Q (act limits context place a) w
  act_steps place a w q = played_steps place (role_of a) w q

  acted_steps : ((e : Ending) → Q e) → (place : Place) (actions : List Action) (w : Compilation)
      → Walks limits context Q (acted limits context place actions) w
  acted_steps q place [] w r = stays w r
  acted_steps q place (a ∷ actions) w r = Behind (acted limits context place actions) (act_steps place a w (λ e is. q e) r)
      (acted_steps q place actions (act limits context place a w))

  pub all_acted_steps : ((e : Ending) → Q e) → (place : Place) (actions : List Action) (w : Compilation)
      → Walks limits context Q (all_acted limits context place actions) w
  all_acted_steps q place actions w r = After {x = record w { opening = None }} {s = r} (Rests (λ u h. h) refl)
      (acted_steps q place actions (record w { opening = None }) r)

  -- Lemmas about tokens

  pub took_steps : (t : SourceToken) (w : Compilation) → Walks limits context Q (took context t) w
  took_steps t w r =
      let v = record w { unit = unit_taken t w.unit } in
      After {x = v} {s = r} (unit_steps w (unit_taken t w.unit) r)
      (Behind (token_checked context t) Sizes (λ s. Nests t.place (opens t.kind && is_deep (sized context v) 0)))

  -- Lemmas about bad tokens

  checked_steps : (opening : Option Place) (w : Compilation) → Walks limits context Q (opening_checked_at opening context) w
  checked_steps None w r = stays w r
  checked_steps (Some place) w r = Nests place (is_deep w 1)

  cut_steps : (w : Compilation) → Walks limits context Q (cut context) w
  cut_steps w r =
      let sure = record w { unit = record w.unit { is_sure = true } } in
      let v = given_up (body_ended sure) in
      After {x = sure} {s = r} (unit_steps w (record w.unit { is_sure = true }) r)
      (After {x = body_ended sure} {s = r} Leaves (After {x = v} {s = r} GivesUp
      (Behind (opening_checked context) Sizes (checked_steps (sized context v).opening (sized context v)))))

  held_steps : (held : Option ℕ) (place : Place) (w : Compilation) → Walks limits context Q (held_ended held limits context place) w
  held_steps None place w = stays w
  held_steps (Some count) place w = entry_steps place false w

  pub cut_at_steps : (place : Place) (w : Compilation) → Walks limits context Q (cut_at limits context place) w
  cut_at_steps place w r =
      Behind (cut context) (held_steps w.unit.held place w r) (cut_steps (held_ended w.unit.held limits context place w))
