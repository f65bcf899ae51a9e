-- Every refusal of a catalogue, with its number, its layer and its place. Assumes nothing.
use Rattle.tickets.specs.declared.fault.Fault.{Fault}
use Rattle.tickets.specs.declared.fault.Layer.TheVariants.{Catalogue}
use Rattle.catalogue.specs.declared.refusal.CatalogueRefusal.{CatalogueRefusal}
use Rattle.catalogue.specs.declared.refusal.CatalogueRefusal.TheVariants.{OutOfForm, TooManyRecords, NoEntryFits}

abbrev pub catalogue_fault : CatalogueRefusal → Fault
catalogue_fault (OutOfForm record-number) = record { number = 2; layer = Catalogue; place = record-number }
catalogue_fault TooManyRecords = record { number = 3; layer = Catalogue; place = 0 }
catalogue_fault NoEntryFits = record { number = 12; layer = Catalogue; place = 0 }
