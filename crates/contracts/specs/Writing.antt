-- The text of a contract, and of a leg that a ticket keeps. Assumes nothing.
use Rattle.std.specs.Prelude.{ℕ, List, [], ◌∷◌, ◌++◌, codes, decimal}
use Rattle.keys.specs.Writing.{strike_text, month_text}
use Rattle.contracts.specs.Letters.{side_text, right_text}
use Rattle.contracts.specs.declared.root.Root.{Root}
use Rattle.contracts.specs.declared.contract.Underlying.{Underlying}
use Rattle.contracts.specs.declared.contract.Underlying.TheVariants as on
use Rattle.contracts.specs.declared.contract.Contract.{Contract}
use Rattle.contracts.specs.declared.contract.Contract.TheVariants as contract
use Rattle.contracts.specs.declared.leg.Leg.{Leg}

abbrev pub root_text : Root → List ℕ
root_text root = root.first ∷ root.second ∷ root.third ∷ []

-- nothing for the spot
abbrev pub underlying_text : Underlying → List ℕ
underlying_text on.Spot = []
underlying_text (on.Future month) = codes "@" ++ month_text month

abbrev pub contract_text : Contract → List ℕ
contract_text (contract.Future root month) = root_text root ++ (codes ":F:" ++ month_text month)
contract_text (contract.Option right root month strike underlying) =
    root_text root ++ (codes ":" ++ (right_text right ++ (codes ":" ++ (month_text month ++ (codes ":" ++ (strike_text strike ++ underlying_text underlying))))))

-- the side, the lots, `:` and the contract
unfoldable pub leg_text : Leg → List ℕ
leg_text leg = side_text leg.side ++ (decimal leg.ratio ++ (codes ":" ++ contract_text leg.contract))
