-- Names of the routines of the veneer that templates call.
use Rattle.std.specs.Prelude.{ℕ, List, codes}
use Rattle.inf_output.specs.declared.veneer.Veneer.{Veneer}

abbrev pub name_of : Veneer → List ℕ
name_of Veneer.ReadProperty = codes "RV__Pr"
name_of Veneer.WriteProperty = codes "WV__Pr"
name_of Veneer.PropertyAddress = codes "RA__Pr"
name_of Veneer.PropertyLength = codes "RL__Pr"
name_of Veneer.CallProperty = codes "CA__Pr"
name_of Veneer.StepProperty = codes "AP__Va"
name_of Veneer.WriteByte = codes "SB__Va"
name_of Veneer.WriteWord = codes "SW__Va"
name_of Veneer.StepByte = codes "AB__Va"
name_of Veneer.StepWord = codes "AW__Va"
name_of Veneer.Children = codes "Ch__Ln"
name_of Veneer.OfClass = codes "OC__Cl"
name_of Veneer.Provides = codes "OP__Pr"
name_of Veneer.ShortName = codes "PrintShortName"
name_of Veneer.DefiniteArticle = codes "DefArt"
name_of Veneer.CapitalArticle = codes "CDefArt"
name_of Veneer.IndefiniteArticle = codes "InDefArt"
name_of Veneer.EnglishNumber = codes "EnglishNumber"
name_of Veneer.Spaces = codes "Sp__Pr"
name_of Veneer.Process = codes "R_Process"
