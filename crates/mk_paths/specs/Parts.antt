-- What the functions do with the parts of a name.
use Rattle.std.specs.Prelude.{Result, Option, Vec, List, [], ℕ, IfOk, option_map, ◌≡◌, Bool, Some, None, if◌then◌else◌}
use Rattle.std.specs.Borrow.{Bor}
use Rattle.std.specs.Global.{Global}
use Rattle.mk_paths.specs.FileName.{kept_parts, with_part}
use Rattle.text_parts.specs.Cuts.{now_all}

-- where a function succeeds, it gives the parts that are kept of these, or none if one goes above the root
abbrev pub KeepsParts : {F : Type 0} → Result (Option (Vec (Bor (List ℕ)) Global)) F → List (Bor (List ℕ)) → Type 0
KeepsParts result given =
    IfOk result (λ kept. option_map (λ (parts : Vec (Bor (List ℕ)) Global). now_all parts.items) kept ≡ kept_parts [] (now_all given))

-- where a function succeeds, it tells whether this part could be taken, and took it if it could
abbrev pub TakesPart : {F : Type 0} → Result Bool F → List (Bor (List ℕ)) → List (Bor (List ℕ)) → List ℕ → Type 0
TakesPart result old new part =
    IfOk result (λ placed. with_part (now_all old) part ≡ (if placed then Some (now_all new) else None))
