-- The directives that are one unit, as trees, and their effects as a whole.
use Rattle.std.specs.Prelude.{◌≡◌, ℕ, ◌+◌, ◌<◌, List, [], ◌∷◌, ◌++◌, length, codes, Bool, true, false, ◌&&◌, ◌||◌, ◌==◌}
use Rattle.inf_scanner.specs.declared.tokens.Mark.{Mark}
use Rattle.inf_settings.specs.Bounds.{Limits}
use Rattle.inf_machine.specs.Grammar.{Event, IsText, has}
use Rattle.inf_syntax.specs.{Atoms.joined, Atoms.mark_atom, Atoms.of_word, declared.actions.Action.Action}
use Rattle.inf_syntax.specs.declared.parts.names.TheConstants as Part
use Rattle.inf_grammar.specs.Language.{grammar}
use Rattle.inf_unit.specs.Units.{no_unit}
use Rattle.inf_compilation.specs.{Actions.Compilation, Actions.piece_begun, Context.Context}
use Rattle.inf_reader.specs.Directives.{directive_end}
use Rattle.inf_statement_laws.specs.{Laid.passed, Readings.Seen, Readings.all_taken}
use Rattle.inf_expression_laws.specs.Gathered.{AreSeen}
use Rattle.inf_language.specs.{Constants.piece_done, Texts.NoneClosesAhead, Texts.atoms_of, Texts.tokens_of}
use Rattle.inf_trees.specs.Trees.{AreWritten, Part, all_seen, parts_told, with_parts}

-- a directive that is one unit, and its semicolon
pub record Directive : Type 0 where
  pub unit : List Part
  pub semicolon : Seen

-- The effect of a directive: the reports of its tokens, then its end, with its unit, and the conditional directives that end behind its
-- semicolon.
abbrev pub directive_done : Limits → Context → Directive → Compilation → Compilation
directive_done limits context d w =
    passed d.semicolon.behind
    (directive_end limits context d.semicolon.token.place
    (record (parts_told context no_unit d.unit w) { unit = with_parts d.unit no_unit }))

-- the words with which directives begin that are one unit, as atoms
abbrev pub words : ℕ
words =
    joined
    (of_word (codes "attribute")
    ∷ of_word (codes "constant")
    ∷ of_word (codes "default")
    ∷ of_word (codes "end")
    ∷ of_word (codes "fake_action")
    ∷ of_word (codes "global")
    ∷ of_word (codes "iffalse")
    ∷ of_word (codes "iftrue")
    ∷ of_word (codes "include")
    ∷ of_word (codes "lowstring")
    ∷ of_word (codes "message")
    ∷ of_word (codes "property")
    ∷ of_word (codes "release")
    ∷ of_word (codes "replace")
    ∷ of_word (codes "serial")
    ∷ of_word (codes "stub")
    ∷ of_word (codes "switches")
    ∷ of_word (codes "system_file")
    ∷ [])

unfoldable pub is_word : ℕ → Bool
is_word atom = has words atom

-- whether tokens begin as such a directive does: with one of the words, behind a sign `#` or not
abbrev pub begins_directive : List ℕ → Bool
begins_directive (first ∷ second ∷ atoms) = is_word first || ((first == mark_atom Mark.Hash) && is_word second)
begins_directive _ = false

-- Tells whether tokens are a directive that is one unit, whose expressions are those of their tokens by the levels of operators, and
-- whether taking the tokens has the effect of the directive.
pub record IsDirective (limits : Limits) (seen : List Seen) : Type 0 where
  pub tree : Directive
  pub same : all_seen tree.unit ++ tree.semicolon ∷ [] ≡ seen
  pub written : AreWritten no_unit tree.unit
  pub does : (context : Context) (w : Compilation)
      → piece_done (all_taken limits context seen (Part.PIECE ∷ []) (piece_begun w))
      ≡ piece_done (directive_done limits context tree (piece_begun w))

-- All tokens that are a text of a piece and begin as such a directive are one. Each that has the atom of a mark is that mark, and
-- there are few enough of them for their orders to differ.
abbrev pub DirectivesAreTrees : Limits → Type 0
DirectivesAreTrees limits =
    (seen : List Seen) (events : List (Event Action)) → IsText grammar (Part.PIECE ∷ []) (atoms_of seen) events
    → begins_directive (atoms_of seen) ≡ true → AreSeen (atoms_of seen) (tokens_of seen) → length seen < 4294967295
    → NoneClosesAhead seen → IsDirective limits seen
