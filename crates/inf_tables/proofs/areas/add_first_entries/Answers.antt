use Rattle.std.proofs.Common.{◌≡◌, ◌++◌, ◌∙◌, OnOk, ap, subst}
use Rattle.inf_objects.specs.Attributes.{no_attributes}
use Rattle.inf_tables.proofs.Joining.{first_entry, four_entries}
use Rattle.inf_tables.proofs.areas.add_first_entries.Goals as goal

pub returns : goal.returns
unfolding no_attributes
returns c =
    let links = c.args.links.now in
    let three = c.in_ok-add_entry-3.ensures
    ∙ ap (λ cs. cs ++ first_entry links 2) (c.in_ok-add_entry-2.ensures ∙ ap (λ cs. cs ++ first_entry links 1) c.in_ok-add_entry.ensures) in
    subst (λ cs. OnOk c.add_entry-4.result (c.add_entry-4.new.cells ≡ cs))
    (ap (λ cs. cs ++ first_entry links 3) three ∙ four_entries links c.args.cells.now) c.add_entry-4.ensures
