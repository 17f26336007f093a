-- The change of a size that the code computes is the change of the size that a body's properties have.
use Rattle.std.proofs.Common.{◌≡◌, ◌∷◌, ◌++◌, [], ℕ, List, Bool, false, Option, length, refl, sym, ap, subst, ◌∙◌, option_to_list}
use Rattle.inf_area.specs.declared.targets.Value.{Value}
use Rattle.inf_properties.specs.{Open.Open, Open.given_first, Open.is_last_short, Values.with_last_value, declared.sizes.Owner.Owner}
use Rattle.inf_properties.specs.{declared.sizes.Size.Size, declared.values.Property.Property}
use Rattle.inf_properties.specs.Properties.{AreNew, found, has, inherited, joined, joined_values, values_in, values_of}
use Rattle.inf_properties.specs.Sizes.{is_short, joined_size, later_count, size_by, size_of, size_option, total}
use Rattle.inf_properties.proofs.Opening.{is_last_short_push, with_last_value-push}
use Rattle.inf_properties.proofs.Sums.{Changes, given_changes, replaced_changes, size-joined}

-- equal parts change alike
alike : (old old' lost lost' gained gained' new : Size) → old ≡ old' → lost ≡ lost' → gained ≡ gained' → Changes old' lost' gained' new →
    Changes old lost gained new
alike old old' lost lost' gained gained' new a b c h = subst (λ x. Changes x lost gained new) (sym a)
    (subst (λ x. Changes old' x gained new) (sym b) (subst (λ x. Changes old' lost' x new) (sym c) h))

-- the size of a property, by its counts
pub sized_by : (o o' : Owner) (n : ℕ) (b : Bool) (count later : ℕ) (values above own : List Value)
    → o ≡ o' → count ≡ length own → later ≡ later_count own → values ≡ above
    → joined_size o n b count later values ≡ joined_size o' n b (length own) (later_count own) above
sized_by o o' n b count later values above own p q r s = ap (λ x. joined_size x n b count later values) p
    ∙ ap (λ x. joined_size o' n b x later values) q ∙ ap (λ x. joined_size o' n b (length own) x values) r
    ∙ ap (λ x. joined_size o' n b (length own) (later_count own) x) s

pub given_fits : (view s : Open) (size lost gained : Size) (n : ℕ) (b : Bool) (first : Option Value)
    → view ≡ s → AreNew [] view.above → has n s.own ≡ false → size ≡ total view.owner (inherited view.own view.above)
    → lost ≡ size_option s.owner (found n s.above)
    → gained ≡ joined_size s.owner n b (length (option_to_list first)) (later_count (option_to_list first)) (values_in (found n s.above))
    → Changes size lost gained (total s.owner (inherited (s.own ++ given_first n b first ∷ []) s.above))
given_fits view s size lost gained n b first is once absent sized was now =
    let new = given_changes s.owner s.own s.above (given_first n b first) (subst (λ (o : Open). AreNew [] o.above) is once) absent in
    alike size (total s.owner (inherited s.own s.above)) lost (size_option s.owner (found n s.above)) gained
    (size_of s.owner (joined s.above (given_first n b first))) (total s.owner (inherited (s.own ++ given_first n b first ∷ []) s.above))
    (sized ∙ ap (λ (o : Open). total o.owner (inherited o.own o.above)) is) was
    (now ∙ sym (size-joined s.owner n b (option_to_list first) (values_in (found n s.above)))) new

-- the change of the size with one value more of the last property
pub valued_fits : (view s : Open) (front : List Property) (p : Property) (v : Value) (size lost gained : Size)
    → view ≡ s → view.own ≡ front ++ p ∷ [] → size ≡ total view.owner (inherited view.own view.above)
    → lost ≡ size_of s.owner (joined s.above p) → gained ≡ size_of s.owner (joined s.above (record p { values = p.values ++ v ∷ [] }))
    → Changes size lost gained (total s.owner (inherited (with_last_value v s.own) s.above))
valued_fits view s front p v size lost gained is last sized was now =
    let q : Property = record p { values = p.values ++ v ∷ [] } in
    let own : s.own ≡ front ++ p ∷ [] = ap (λ (o : Open). o.own) (sym is) ∙ last in
    let new = replaced_changes s.owner front s.above p q refl in
    let old = sized ∙ ap (λ (o : Open). total o.owner (inherited o.own o.above)) is ∙ ap (λ ps. total s.owner (inherited ps s.above)) own in
    let then = ap (λ ps. total s.owner (inherited ps s.above)) (ap (with_last_value v) own ∙ with_last_value-push front p v) in
    subst (Changes size lost gained) (sym then)
    (alike size (total s.owner (inherited (front ++ p ∷ []) s.above)) lost (size_of s.owner (joined s.above p)) gained
    (size_of s.owner (joined s.above q)) (total s.owner (inherited (front ++ q ∷ []) s.above)) old was now new)

-- the size of a property with the values of classes
pub sized_as : (o o' : Owner) (p : Property) (values : List Value) (above : List Property) → o ≡ o' → values ≡ values_of p.number above
    → size_by o p.number (length (joined_values p.is_additive p.values values)) (later_count (joined_values p.is_additive p.values values))
    ≡ size_of o' (joined above p)
sized_as o o' p values above a b = ap (λ x. size_by x p.number (length (joined_values p.is_additive p.values values))
    (later_count (joined_values p.is_additive p.values values))) a
    ∙ ap (λ vs. size_by o' p.number (length (joined_values p.is_additive p.values vs))
    (later_count (joined_values p.is_additive p.values vs))) b

-- the last property with a further value is short where that property, joined with those of classes, is short
pub last_short_is : (own front above : List Property) (p : Property) (v : Value) → own ≡ front ++ p ∷ []
    → is_last_short above (with_last_value v own) ≡ is_short (joined above (record p { values = p.values ++ v ∷ [] }))
last_short_is own front above p v is =
    ap (λ ps. is_last_short above (with_last_value v ps)) is ∙ ap (is_last_short above) (with_last_value-push front p v)
    ∙ is_last_short_push above front (record p { values = p.values ++ v ∷ [] })
