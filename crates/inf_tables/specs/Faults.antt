-- The fault of the world for each fault of a given property.
use Rattle.inf_properties.specs.declared.open.GiveFault.{GiveFault}
use Rattle.inf_tables.specs.{declared.faults.Limit.Limit, declared.faults.Misfit.Misfit, declared.faults.WorldFault.WorldFault}
use Rattle.inf_tables.specs.{declared.faults.WorldSetting.WorldSetting}

abbrev pub given_fault : GiveFault → WorldFault
given_fault GiveFault.Given = WorldFault.Misfit Misfit.GivenAlready
given_fault GiveFault.TooLong = WorldFault.Limit Limit.Values
given_fault GiveFault.Full = WorldFault.Full WorldSetting.PropertyTables
given_fault GiveFault.Memory = WorldFault.Memory
