use Rattle.std.proofs.Common.{List, [], ◌∷◌, ◌++◌, ap, length, ◌∙◌, Bool}
use Rattle.inf_unit.specs.{Spelled.spelled, Tokens.SourceToken}
use Rattle.inf_conditionals.specs.{Packed.beside_of, Packed.packed_as, declared.packed.Beside.Beside, declared.packed.Packed.Packed}
use Rattle.inf_conditionals.specs.declared.packed.ShortKind.{ShortKind}
use Rattle.inf_conditionals.proofs.PackedTokens.{IsMore, added_packed, added_tokens}
use Rattle.inf_conditionals.proofs.packed.PackedTokens.add.Goals as goal

pub invariant_of-self-2 : goal.invariant_of-self-2
invariant_of-self-2 c =
    let t = c.args.token.now in let k = c.self.inside in let n = length t.bytes.now in
    let more : IsMore t.kind t.place t.is_class t.bytes.now k.tokens.items c.push_reserved.new.self.items k.beside.items
    c.add_beside.new.beside.items k.bytes.items c.extend_from_slice.new.self.items = record {
      tokens_are = c.push_reserved.ensures.items ∙ ap (λ (l : List Packed). l ++ c.new.result ∷ []) c.reserve.ensures.items
          ∙ ap (λ (x : Packed). k.tokens.items ++ x ∷ []) (c.new.ensures
          ∙ ap (λ (b : Bool). packed_as c.short_kind-kind.result t.place b n) c.is_class.ensures
          ∙ ap (λ (s : ShortKind). packed_as s t.place t.is_class n) c.short_kind-kind.ensures);
      beside_are = c.add_beside.ensures
          ∙ ap (λ (l : List Beside). l ++ beside_of c.short_kind-kind.result t.kind n) c.reserve-2.ensures.items
          ∙ ap (λ (s : ShortKind). k.beside.items ++ beside_of s t.kind n) c.short_kind-kind.ensures;
      bytes_are = c.in_ok-extend_from_slice.ensures.items;
    } in
    added_packed t.kind t.place t.is_class t.bytes.now k.tokens.items c.push_reserved.new.self.items k.beside.items
    c.add_beside.new.beside.items k.bytes.items c.extend_from_slice.new.self.items more t.is_short c.self.invariant

pub returns-clause-added : goal.returns-clause-added
returns-clause-added c =
    let t = c.args.token.now in let k = c.self.inside in let n = length t.bytes.now in
    let more : IsMore t.kind t.place t.is_class t.bytes.now k.tokens.items c.push_reserved.new.self.items k.beside.items
    c.add_beside.new.beside.items k.bytes.items c.extend_from_slice.new.self.items = record {
      tokens_are = c.push_reserved.ensures.items ∙ ap (λ (l : List Packed). l ++ c.new.result ∷ []) c.reserve.ensures.items
          ∙ ap (λ (x : Packed). k.tokens.items ++ x ∷ []) (c.new.ensures
          ∙ ap (λ (b : Bool). packed_as c.short_kind-kind.result t.place b n) c.is_class.ensures
          ∙ ap (λ (s : ShortKind). packed_as s t.place t.is_class n) c.short_kind-kind.ensures);
      beside_are = c.add_beside.ensures
          ∙ ap (λ (l : List Beside). l ++ beside_of c.short_kind-kind.result t.kind n) c.reserve-2.ensures.items
          ∙ ap (λ (s : ShortKind). k.beside.items ++ beside_of s t.kind n) c.short_kind-kind.ensures;
      bytes_are = c.in_ok-extend_from_slice.ensures.items;
    } in
    added_tokens t.kind t.place t.is_class t.bytes.now k.tokens.items c.push_reserved.new.self.items k.beside.items
    c.add_beside.new.beside.items k.bytes.items c.extend_from_slice.new.self.items more c.self.invariant
    ∙ ap (λ (ts : List SourceToken). ts ++ spelled t ∷ []) c.self.view_is
