-- The end of a file is always handed on.
use Rattle.std.proofs.Common.{◌≡◌, ℕ, List, [], ◌∷◌, Bool, true, false, cond, Option, Some, None, refl, ap}
use Rattle.inf_scanner.specs.{declared.tokens.Place.Place, declared.tokens.TokenKind.TokenKind}
use Rattle.inf_output.specs.Output.{Out}
use Rattle.inf_unit.specs.Tokens.{SourceToken}
use Rattle.inf_conditionals.specs.{Condition.Condition, Condition.condition_took, Open.Conditions, declared.filtered.Filtered.Filtered}
use Rattle.inf_conditionals.specs.{declared.filtered.Forwarded.Forwarded, declared.filtered.Site.Site, declared.open.LeftOut.LeftOut}
use Rattle.inf_conditionals.specs.{declared.pending.Awaits.Awaits, declared.pending.Pending.Pending}
use Rattle.inf_conditionals.specs.Judging.{asked, awaited, judged, judged_by, offered_condition, offered_to, sign_offered, unfit, went_on}
use Rattle.inf_conditionals.proofs.Misfits.{end_fits_nothing}

abbrev pub end_of : List ℕ → Place → Bool → SourceToken
end_of bytes place named = record { kind = TokenKind.End; bytes = bytes; place = place; is_class = named }

-- Tells whether a token that is handed on in this way reaches the grammar.
abbrev pub is_on : Forwarded → Bool
is_on Forwarded.Kept = true
is_on Forwarded.Unfit = true
is_on Forwarded.Condition = false

-- A token is handed on to the grammar, in some way.
pub record IsForwarded (j : Filtered) : Type 0 where
  pub handed : Forwarded
  pub is : j.token ≡ Some handed
  pub on : is_on handed ≡ true

as_kept : (j : Filtered) → j.token ≡ Some Forwarded.Kept → IsForwarded j
as_kept j e = record { handed = Forwarded.Kept; is = e; on = refl }

as_unfit : (j : Filtered) → j.token ≡ Some Forwarded.Unfit → IsForwarded j
as_unfit j e = record { handed = Forwarded.Unfit; is = e; on = refl }

-- the end of a file fits no condition
to_offered_condition : (wanted : Bool) (q : Site) (out : Out) (bytes : List ℕ) (place : Place) (named : Bool) (k : Condition) (p : Pending)
    (c : Conditions) → IsForwarded (offered_condition wanted q out (end_of bytes place named) k p c).judged
to_offered_condition wanted q out bytes place named k p c =
    let t : SourceToken = end_of bytes place named in let n : Condition = condition_took t k in
    as_unfit _ (ap (λ (b : Bool). (cond b (went_on wanted q out t n p c) (unfit c)).judged.token) (end_fits_nothing k.stack))

to_asked : (conditions : List Condition) (wanted : Bool) (q : Site) (out : Out) (bytes : List ℕ) (place : Place) (named : Bool)
    (p : Pending) (c : Conditions) → IsForwarded (asked conditions wanted q out (end_of bytes place named) p c).judged
to_asked [] wanted q out bytes place named p c = as_unfit _ refl
to_asked (k ∷ conditions) wanted q out bytes place named p c =
    to_offered_condition wanted q out bytes place named k p (record c { conditions = conditions })

to_awaited : (a : Awaits) (q : Site) (out : Out) (bytes : List ℕ) (place : Place) (named : Bool) (p : Pending) (c : Conditions) →
    IsForwarded (awaited a q out (end_of bytes place named) p c).judged
to_awaited Awaits.Word q out bytes place named p c = as_kept _ refl
to_awaited (Awaits.Name b) q out bytes place named p c = as_unfit _ refl
to_awaited (Awaits.Condition wanted) q out bytes place named p c = to_asked c.conditions wanted q out bytes place named p c
to_awaited (Awaits.End e) q out bytes place named p c = as_unfit _ refl

to_offered : (ps : List Pending) (front : Bool) (q : Site) (out : Out) (bytes : List ℕ) (place : Place) (named : Bool) (c : Conditions) →
    IsForwarded (offered_to ps front q out (end_of bytes place named) c).judged
to_offered [] true q out bytes place named c = as_kept _ refl
to_offered [] false q out bytes place named c = as_kept _ refl
to_offered (p ∷ ps) front q out bytes place named c = to_awaited p.awaits q out bytes place named p (record c { pending = ps })

end_by : (side : Option LeftOut) (sign : Option Place) (site : Site) (out : Out) (bytes : List ℕ) (place : Place) (named : Bool)
    (c : Conditions) → IsForwarded (judged_by side sign site out (end_of bytes place named) c).judged
end_by (Some side) sign site out bytes place named c =
    to_offered c.pending false site out bytes place named (record c { left_out = None; sign = None })
end_by None (Some at) site out bytes place named c =
    let here = (sign_offered c.pending at site (record c { sign = None })).now in
    let f = to_offered here.pending false site out bytes place named here in record { handed = f.handed; is = f.is; on = f.on }
end_by None None site out bytes place named c = to_offered c.pending _ site out bytes place named c

pub end_is_handed : (site : Site) (out : Out) (bytes : List ℕ) (place : Place) (named : Bool) (c : Conditions) →
    IsForwarded (judged site out (end_of bytes place named) c).judged
end_is_handed site out bytes place named c = end_by c.left_out c.sign site out bytes place named c
