-- What the code has, as the definitions see it.
use Rattle.std.specs.Prelude.{◌≡◌, ℕ, List, [], ◌∷◌, ◌++◌, refl, map, Option, Some, None, option_map, String, string_bytes}
use Rattle.std.proofs.Common.{ap}
use Rattle.std.specs.Borrow.{Bor}
use Rattle.std.specs.declared.alloc.Global.{Global}
use Rattle.mk_paths.specs.World.{FileMap}
use Rattle.mk_loop.specs.declared.iterations.Iteration.{Iteration}
use Rattle.mk_loop.specs.Scopes.{iteration_words, words_in, words_in-inside, words_in-alike}
use Rattle.mk_eval.specs.Lines.{Loops, inside_iteration}
use Rattle.mk_eval.specs.Includes.{Place, File}
use Rattle.mk_eval.specs.declared.includes.ExecutedFile.{ExecutedFile}
use Rattle.mk_eval.specs.declared.includes.Included.{Included}

-- the loops around a line, of which the innermost is the last
abbrev pub loops_of : List Iteration → Loops
loops_of [] = None
loops_of (iteration ∷ loops) = Some (words_in (iteration ∷ loops))

-- the loops with one more inside them, at this iteration
pub loops_of-inside : (loops : List Iteration) (iteration : Iteration)
    → loops_of (loops ++ iteration ∷ []) ≡ inside_iteration (loops_of loops) (iteration_words iteration)
loops_of-inside [] iteration = ap Some (words_in-inside [] iteration)
loops_of-inside (outer ∷ loops) iteration = ap Some (words_in-inside (outer ∷ loops) iteration)

-- loops are the same around a line if each has the words of the other's
pub loops_of-alike : (loops others : List Iteration) → map iteration_words loops ≡ map iteration_words others
    → loops_of loops ≡ loops_of others
loops_of-alike [] [] same = refl
loops_of-alike [] (other ∷ others) same = cc
loops_of-alike (outer ∷ loops) [] same = cc
loops_of-alike (outer ∷ loops) (other ∷ others) same = ap Some (words_in-alike (outer ∷ loops) (other ∷ others) same)

-- the flavors that are given
abbrev pub flavors_in : Option (Bor (List (String Global))) → Option (List (List ℕ))
flavors_in flavors = option_map (λ given. map string_bytes given.now) flavors

-- the place of an executed file, among these files
abbrev pub place_of_file : ExecutedFile → FileMap → Place
place_of_file here files =
    record {
      files = files;
      makefile = here.makefile.now;
      file = here.file.now;
      levels = here.levels;
    }

-- a file that is to be executed
abbrev pub included_file : Included → File
included_file included = (included.name, included.content)
