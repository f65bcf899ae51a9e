-- Roles and relations, one after another. Assumes nothing.
use Rattle.std.proofs.Common.{ℕ, List, ◌++◌, Ok, Err, Result}
use Rattle.sheet.specs.declared.record.Relation.{Relation}
use Rattle.sheet.specs.declared.record.Role.{Role}
use Rattle.records.specs.declared.trouble.RecordTrouble.{RecordTrouble}

-- what is read of the rest, behind some relations
abbrev pub behind : List Relation → Result (List Relation) RecordTrouble → Result (List Relation) RecordTrouble
behind front (Ok rest) = Ok (front ++ rest)
behind front (Err t) = Err t

abbrev pub Taken : Type 0
Taken = List Role × List (List ℕ)
