-- The pieces of a source.
use Rattle.std.proofs.Common.{◌≡◌, ℕ, List, [], ◌∷◌, take, drop, Bool, true, Option, Some, None, is_some, refl, sym, ap, ◌∙◌}
use Rattle.std.proofs.lemmas.List.{take-append-drop}
use Rattle.inf_scanner.specs.declared.tokens.TokenKind.{TokenKind}
use Rattle.inf_report.specs.Messages.{Message}
use Rattle.inf_syntax.specs.declared.actions.Action.{Action}
use Rattle.inf_machine.specs.{Machine.Read, Machine.fits, Machine.read, declared.symbols.Symbol.Symbol}
use Rattle.inf_grammar.specs.{Evaluated.language_is_decided, Language.grammar, Language.known}
use Rattle.inf_machine.proofs.{ReadOn.read_append, ReadOn.read_on, TokenLaws.bad_tokens_begin_nothing}
use Rattle.inf_unit.specs.Atoms.{atom_of_kind, bad_atom}
use Rattle.inf_reader.specs.{Pieces.FaultyTokensFitNothing, Pieces.FrontsBegin, Pieces.PiecesBegin, Reading.piece_rule, Tests.fault_of_kind}
use Rattle.inf_conditionals.proofs.Misfits.{bad_fits_nothing}

abbrev piece : List (Symbol Action)
piece = Symbol.Rule piece_rule ∷ []

pub pieces_begin : PiecesBegin
pieces_begin seen p = record { begins = (p.events, [], p.is_text) }

-- atoms that are read with others behind them are read by themselves
read_before : (o : Option (Read Action)) (behind : List ℕ) → is_some (read_on grammar known o behind) ≡ true → is_some o ≡ true
read_before (Some r) behind h = refl
read_before None behind h = h

pub fronts_begin : FrontsBegin
fronts_begin seen n b = record {
  begins = (bad_tokens_begin_nothing grammar known piece_rule (take n seen) language_is_decided).0
      (read_before (read grammar known piece (take n seen)) (drop n seen) whole);
} where
  all : is_some (read grammar known piece seen) ≡ true
  all = (bad_tokens_begin_nothing grammar known piece_rule seen language_is_decided).1 b.begins

  whole : is_some (read_on grammar known (read grammar known piece (take n seen)) (drop n seen)) ≡ true
  whole = ap is_some (sym (read_append grammar known piece (take n seen) (drop n seen)))
      ∙ ap (λ ts. is_some (read grammar known piece ts)) (take-append-drop n seen) ∙ all

-- Lemmas about tokens that are faulty by themselves

faulty_is_bad : (c : Bool) (k : TokenKind) (bytes : List ℕ) (m : Message) → fault_of_kind k ≡ Some m → atom_of_kind c k bytes ≡ bad_atom
faulty_is_bad c (TokenKind.Bad b) bytes m h = refl
faulty_is_bad c TokenKind.Name bytes m h = cc
faulty_is_bad c (TokenKind.Number n) bytes m h = cc
faulty_is_bad c TokenKind.Text bytes m h = cc
faulty_is_bad c (TokenKind.Char z) bytes m h = cc
faulty_is_bad c (TokenKind.Word w) bytes m h = cc
faulty_is_bad c (TokenKind.Mark mark) bytes m h = cc
faulty_is_bad c TokenKind.End bytes m h = cc

pub faulty_tokens_fit_nothing : FaultyTokensFitNothing
faulty_tokens_fit_nothing t m stack h =
    ap (λ atom. fits grammar known atom stack) (faulty_is_bad t.is_class t.kind t.bytes m h) ∙ bad_fits_nothing stack
