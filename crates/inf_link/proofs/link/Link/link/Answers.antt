-- The story of its parts, and their numbers of bytes.
use Rattle.std.proofs.Common.{◌∙◌, ◌++◌, ap}
use Rattle.inf_link.specs.{Areas.contents, Header.header, Targets.lookup}
use Rattle.inf_link.proofs.Linking.{filled-map, sizes-parts, story-parts}
use Rattle.inf_link.proofs.link.Link.link.Goals as goal

pub returns-clause-bytes : goal.returns-clause-bytes
returns-clause-bytes g c =
    let link = c.args.self in let before = contents g.A.Area.bytes link.areas in
    let areas = contents g.A.Area.bytes c.filled-areas.result in let map = c.in_ok-map.map in
    let behind = c.in_ok-body.body.items in let is_map = c.in_ok-map.ensures.map.0 in
    let are_filled = filled-map before areas link.refs.list (lookup link.targets) link.fields c.lengths.result map c.lengths.ensures is_map
    c.filled-areas.ensures in
    let parts = story-parts before areas link.refs.list (lookup link.targets) link.fields c.lengths.result map behind c.lengths.ensures
    is_map are_filled c.in_ok-body.ensures in
    c.in_ok-extend_from_slice.ensures.items ∙ ap (λ xs. xs ++ c.deref-2.result.now) c.in_ok-append_header.ensures
    ∙ ap (λ xs. (xs ++ header link.fields map.bases c.deref.result.now) ++ c.deref-2.result.now) c.in_ok-bytes.ensures.items
    ∙ ap (λ xs. header link.fields map.bases xs ++ c.deref-2.result.now) c.deref.ensures.value
    ∙ ap (λ xs. header link.fields map.bases behind ++ xs) c.deref-2.ensures.value ∙ parts

pub returns-clause-sizes : goal.returns-clause-sizes
returns-clause-sizes g c =
    let link = c.args.self in let before = contents g.A.Area.bytes link.areas in
    let areas = contents g.A.Area.bytes c.filled-areas.result in let map = c.in_ok-map.map in
    let is_map = c.in_ok-map.ensures.map.0 in
    let are_filled = filled-map before areas link.refs.list (lookup link.targets) link.fields c.lengths.result map c.lengths.ensures is_map
    c.filled-areas.ensures in
    sizes-parts before areas link.refs.list (lookup link.targets) link.fields c.lengths.result map c.extend_from_slice.new.self.items
    c.len.result c.len-2.result c.len-3.result
    c.lengths.ensures is_map are_filled c.len.ensures.value c.len-2.ensures.value (c.len-3.ensures ∙ c.extend_from_slice.new.self.ok.0)
