-- What a cache holds, as its callers see it.
use Rattle.std.specs.Prelude.{ℕ, zero, suc, ◌+◌, ◌-◌, ◌^◌, min, Bool, if◌then◌else◌, List, [], unwrap_or}
use Rattle.std.specs.List.{list_any}
use Rattle.std.specs.Map.{lookup}
use Rattle.std.specs.Str.{bytes_eq}
use Rattle.mk_paths.specs.FilesView.{Question}
use Rattle.eval_cache.specs.declared.counts.Counts.{Counts}
use Rattle.eval_cache.specs.declared.look.Look.{Look}
use Rattle.eval_cache.specs.declared.look.Look.TheVariants.{Hit, Miss}
use Rattle.eval_cache.specs.declared.purpose.Purpose.{Purpose}
use Rattle.eval_cache.specs.declared.purpose.Purpose.TheVariants.{Asking}
use Rattle.eval_cache.specs.Keys.{Key, same_key}

-- how many parses may be kept, and under how many keys evaluations may be
pub record Sizes : Type 0 where
  pub parses : ℕ
  pub keys : ℕ

-- The contents whose parses are kept, and the traces of the evaluations that are kept under each key, with
-- the newest first. How many of each there may be, how often something that was kept was handed out, and what the
-- cache is used for. Evaluations and trees aren't part of it: what is kept is right for its key (`IsRight`), so a
-- trace with which files agree determines the evaluation, and a content its tree.
pub record CacheValue : Type 0 where
  pub contents : List (List ℕ)
  pub traces : List (Key × List (List Question))
  pub sizes : Sizes
  pub counts : Counts
  pub purpose : Purpose

-- a size that is asked for, of which 0 counts as 1
abbrev pub size_for : ℕ → ℕ
size_for zero = 1
size_for (suc size) = suc size

-- a cache of these sizes that holds nothing, and has handed out nothing; it is used for asking
abbrev pub empty_cache : ℕ → ℕ → CacheValue
empty_cache parses keys = record {
  contents = [];
  traces = [];
  sizes = record { parses = size_for parses; keys = size_for keys };
  counts = record { parses = 0; evals = 0 };
  purpose = Asking;
}

-- the parse of a content is kept
abbrev pub holds_parse : CacheValue → List ℕ → Bool
holds_parse cache content = list_any (bytes_eq content) cache.contents

-- the traces of the evaluations that are kept under a key, the newest first
abbrev pub traces_at : CacheValue → Key → List (List Question)
traces_at cache key = unwrap_or (lookup (same_key key) cache.traces) []

-- one more, up to the greatest number of 64 bits
abbrev pub one_more : ℕ → ℕ
one_more count = min (count + 1) (2 ^ 64 - 1)

-- one more parse was handed out that was kept, if it was
abbrev pub count_parse : Bool → Counts → Counts
count_parse kept counts = if kept then record counts { parses = one_more counts.parses } else counts

-- one more evaluation was handed out that was kept, if there was a hit
abbrev pub count_look : Look → Counts → Counts
count_look (Hit evaluation cost) counts = record counts { evals = one_more counts.evals }
count_look Miss counts = counts
