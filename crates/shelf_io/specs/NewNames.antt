-- The name of the new file that takes the place of another one.
use Rattle.std.specs.Prelude.{ℕ, List, ◌++◌, codes}

-- it hides the file, and says whose it is
abbrev pub new_name : List ℕ → List ℕ
new_name kept = codes "." ++ (kept ++ codes ".spmlink-new")
