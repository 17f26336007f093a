-- The story of the areas and targets that were made.
use Rattle.std.proofs.Common.{IfOk, MatchResult, ◌≡◌, ◌⊎◌, ◌∙◌, Option, Some, None, ap, subst}
use Rattle.inf_link.specs.{Areas.contents, Areas.lengths, MemoryMaps.too_long as too_long_by, Stories.sizes, Stories.story as linked}
use Rattle.inf_link.specs.{Targets.lookup, declared.link.LinkFault.LinkFault}
use Rattle.inf_story.proofs.Linked.{if_ok_more, is_sized, is_story, is_too_long, told}
use Rattle.inf_story.proofs.stories.linked.Goals as goal

pub returns-clause-bytes : goal.returns-clause-bytes
returns-clause-bytes g c =
    let finished = c.args.code.finished in
    let same = ap (λ l. linked (contents (λ area. area) l.areas) l.refs.list (lookup l.targets) l.fields) c.new.ensures
    ∙ is_story c.args.fields c.args.main c.args.names.items finished c.args.strings c.args.tables.now _ _ _ c.in_ok-areas.ensures.bytes
    c.in_ok-areas.ensures.fixups c.in_ok-targets.ensures in
    subst (λ bytes. IfOk c.link.result (λ s. s.bytes ≡ bytes)) same c.link.ensures.bytes

pub returns-clause-sizes : goal.returns-clause-sizes
returns-clause-sizes g c =
    let a = c.args in
    let given = subst (λ l. IfOk c.link.result (λ s. s.sizes ≡ sizes (contents (λ area. area) l.areas) l.fields s.bytes)) c.new.ensures
    c.link.ensures.sizes in
    if_ok_more c.link.result _ _ (λ s is. is
    ∙ is_sized a.fields a.main a.code.finished a.strings a.tables.now _ s.bytes c.in_ok-areas.ensures.bytes) given

pub returns-clause-fault : goal.returns-clause-fault
returns-clause-fault g c =
    let same = ap (λ l. too_long_by (lengths (contents (λ area. area) l.areas)) l.fields.scale) c.new.ensures
    ∙ is_too_long c.args.fields c.args.main c.args.code.finished c.args.strings c.args.tables.now _ c.in_ok-areas.ensures.bytes in
    let Tells : Option LinkFault → Type 0 =
    λ long. MatchResult c.link.result (λ _. long ≡ None) (λ fault. (fault ≡ LinkFault.Memory) ⊎ (long ≡ Some fault)) in
    subst Tells same (told c.link.result _ c.link.ensures.fault)
