-- The tokens and the action of a line change of the tables only words, parsing routines and actions.
use Rattle.std.proofs.Common.{◌≡◌, ℕ, zero, suc, List, Option, Some, None, Bool, refl, ◌∙◌}
use Rattle.inf_settings.specs.Bounds.{Limits, unbounded}
use Rattle.inf_scanner.specs.{declared.tokens.Place.Place, declared.tokens.TokenKind.TokenKind}
use Rattle.inf_dictionary.specs.{Texts.Text, declared.uses.WordUse.WordUse}
use Rattle.inf_names.specs.{Spellings.Name, Symbols.declare_fault, Symbols.found_in, Symbols.refer_fault}
use Rattle.inf_names.specs.declared.symbols.{DeclareFault.DeclareFault, ReferFault.ReferFault}
use Rattle.inf_tables.specs.Tables.{AllTables}
use Rattle.inf_unit.specs.{Tokens.SourceToken, Units.bytes_at, Units.kind_at, Units.name_at}
use Rattle.inf_output.specs.Output.{Out, referred, referred_as, referred_by, with_word}
use Rattle.inf_output.specs.Actions.{action_by as action_of_by, appeared, fake_number, key_of, numbered_as, numbered_by, routine_name, routine_of}
use Rattle.inf_output.specs.Actions.{seen_by}
use Rattle.inf_verbs.specs.Routines.{AllActions, action_fault, with_action, with_routine}
use Rattle.inf_verbs.specs.{declared.lines.Noun.Noun, declared.routines.ActionFault.ActionFault}
use Rattle.inf_verb_lines.specs.declared.lines.Named.{Named}
use Rattle.inf_verb_lines.specs.Verbs.{action_by, attribute_in, line_token_by, line_tokens, lone_by, name_token, named_at, noun_named, parsing_as}
use Rattle.inf_verb_lines.specs.Verbs.{parsing_routine}

-- A part of the tables that no preposition, no parsing routine and no action changes
module _ (limits : Limits) {A : Type 0} (P : AllTables → A)
    (words : (text : Text) (is_plural : Bool) (o : Out) → P (with_word limits text WordUse.Preposition is_plural o).tables ≡ P o.tables)
    (parsing : (routines : List ℕ) (t : AllTables) → P (record t { parsing = routines }) ≡ P t)
    (actions : (all : AllActions) (t : AllTables) → P (record t { actions = all }) ≡ P t) where
  referred_stays : (name : List ℕ) (at : Place) (o : Out) → P (referred limits name at o).tables ≡ P o.tables
  referred_stays name at o = by (refer_fault limits name o.names)
    where
      by : (r : Option ReferFault) → P (referred_by limits r name at o).tables ≡ P o.tables
      by None = refl
      by (Some fault) = refl

  parsed_stays : (routine : Option ℕ) (o : Out) → P (parsing_as routine o).0.tables ≡ P o.tables
  parsed_stays None o = refl
  parsed_stays (Some routine) o = parsing (with_routine routine o.tables.parsing) o.tables

  routine_stays : (name : Option Name) (o : Out) → P (parsing_routine limits name o).0.tables ≡ P o.tables
  routine_stays None o = refl
  routine_stays (Some n) o =
      parsed_stays (routine_of (referred_as limits n.bytes o)) (referred limits n.bytes n.place o) ∙ referred_stays n.bytes n.place o

  lone_stays : (noun : Option Noun) (attribute : Option ℕ) (name : Option Name) (o : Out)
      → P (lone_by limits noun attribute name o).0.tables ≡ P o.tables
  lone_stays (Some n) attribute name o = refl
  lone_stays None (Some number) name o = refl
  lone_stays None None name o = routine_stays name o

  name_stays : (n : Named) (tokens : List SourceToken) (at : ℕ) (o : Out) → P (name_token limits n tokens at o).0.tables ≡ P o.tables
  name_stays Named.Sign tokens at o = refl
  name_stays Named.Filter tokens at o = routine_stays (name_at tokens at) o
  name_stays Named.Scope tokens at o = routine_stays (name_at tokens at) o
  name_stays Named.Alone tokens at o =
      lone_stays (noun_named (bytes_at tokens at)) (attribute_in (found_in (bytes_at tokens at) o.names)) (name_at tokens at) o

  token_stays : (k : Option TokenKind) (tokens : List SourceToken) (at : ℕ) (o : Out)
      → P (line_token_by limits k tokens at o).0.tables ≡ P o.tables
  token_stays (Some (TokenKind.Word word)) tokens at o = words word.text word.is_plural o
  token_stays (Some TokenKind.Name) tokens at o = name_stays (named_at tokens at) tokens at o
  token_stays _ tokens at o = refl

  pub tokens_stay : (at : ℕ) (tokens : List SourceToken) (o : Out) → P (line_tokens limits at tokens o).0.tables ≡ P o.tables
  tokens_stay zero tokens o = refl
  tokens_stay (suc at) tokens o = token_stays (kind_at tokens at) tokens at (line_tokens limits at tokens o).0 ∙ tokens_stay at tokens o

  numbered_stays_by : (f : Option ActionFault) (routine : ℕ) (o : Out) → P (numbered_by limits f routine o).0.tables ≡ P o.tables
  numbered_stays_by None routine o = actions (with_action routine o.tables.actions) o.tables
  numbered_stays_by (Some fault) routine o = refl

  numbered_stays : (routine : Option ℕ) (o : Out) → P (numbered_as limits routine o).0.tables ≡ P o.tables
  numbered_stays None o = refl
  numbered_stays (Some routine) o = numbered_stays_by (action_fault limits routine o.tables.actions) routine o

  appeared_stays : (f : Option (DeclareFault Place)) (key : List ℕ) (at : Place) (o : Out) → P (seen_by f key at o).tables ≡ P o.tables
  appeared_stays None key at o = refl
  appeared_stays (Some fault) key at o = refl

  action_stays_by : (fake : Option ℕ) (name : List ℕ) (at : Place) (o : Out) → P (action_of_by limits fake name at o).0.tables ≡ P o.tables
  action_stays_by (Some fake) name at o = refl
  action_stays_by None name at o =
      let p = appeared (key_of name) at o in
      numbered_stays (routine_of (referred_as limits (routine_name name) p)) (referred limits (routine_name name) at p)
      ∙ referred_stays (routine_name name) at p
      ∙ appeared_stays (declare_fault unbounded (key_of name) o.seen) (key_of name) at o

  pub action_stays : (name : Option Name) (o : Out) → P (action_by limits name o).0.tables ≡ P o.tables
  action_stays None o = refl
  action_stays (Some n) o = action_stays_by (fake_number (key_of n.bytes) o) n.bytes n.place o
