-- Loads one after another.
use Rattle.std.proofs.Common.{ℕ, suc, List, [], ◌∷◌, ◌++◌, refl, subst}
use Rattle.apd_io.specs.Outside.{LoadsInTurn}
use Rattle.apd_session.specs.Loads.{LoadsFront}

module _ {T : Type 0} (step : T → List ℕ → T → Type 0) where
  -- none was loaded
  pub loads_none : (names : List (List ℕ)) (a : T) → LoadsFront step names a a
  loads_none names a = record { count = 0; loads = refl }

  -- all were loaded
  pub loads_all : (names : List (List ℕ)) (a b : T) → LoadsInTurn step a names b → LoadsFront step names a b
  loads_all [] a b loads = record { count = 0; loads = loads }
  loads_all (name ∷ names) a b loads =
      let rest : LoadsFront step names loads.0 b = loads_all names loads.0 b loads.2 in
      record { count = suc rest.count; loads = (loads.0, loads.1, rest.loads) }

  -- all of the first names were loaded, and then some of the others
  pub loads_then : (first others : List (List ℕ)) (a b c : T) → LoadsInTurn step a first b → LoadsFront step others b c → LoadsFront step (first ++ others) a c
  loads_then [] others a b c loads front = subst (λ (x : T). LoadsFront step others x c) loads front
  loads_then (name ∷ first) others a b c loads front =
      let rest : LoadsFront step (first ++ others) loads.0 c = loads_then first others loads.0 b c loads.2 front in
      record { count = suc rest.count; loads = (loads.0, loads.1, rest.loads) }

  -- all of the first names were loaded, and no other
  pub loads_first : (first others : List (List ℕ)) (a b : T) → LoadsInTurn step a first b → LoadsFront step (first ++ others) a b
  loads_first first others a b loads = loads_then first others a b b loads (loads_none others b)
