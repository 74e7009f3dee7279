-- What holds of the rows between the calls holds after a change, and what the change makes of the rows of both tables.
use Rattle.std.proofs.Common.{◌≡◌, ℕ, Bool, true, false, cond, List, map, Option, None, Some, is_some, string_bytes, refl, sym, ap, ◌∙◌}
use Rattle.std.proofs.Common.{true≢false}
use Rattle.std.specs.Prelude.{option_map}
use Rattle.std.specs.Option.{option_or}
use Rattle.std.specs.Str.{bytes_eq}
use Rattle.std.proofs.lemmas.Map.Entries.{option_filter}
use Rattle.mk_text.specs.Profiles.{profile_number}
use Rattle.index_store.specs.declared.statements.Part.TheVariants.{Earlier, Current}
use Rattle.index_store.specs.declared.transactions.Change.{Change}
use Rattle.index_store.specs.declared.transactions.Change.TheVariants.{Put, PutEarlier, Mark, MarkAll, TakeOut}
use Rattle.index_store.specs.Entries.{is_one_of}
use Rattle.index_store.specs.PortTable.{Entry, Rows, AreSettled, AllowsFor, is_staying, all_of, stale_mark, leaving_mark}
use Rattle.index_store.specs.PortTable.{with_mark, fresh_entry, marked_among, all_marked, staying_of, without}
use Rattle.index_store.specs.Marks.{IsAllowedChange, rows_after, changed_by}
use Rattle.index_store.proofs.Changing.{each_part}
use Rattle.index_store.proofs.Composing.{leaving, none_among, none_marked}

-- ---- the rows of one path

-- neither is about to be taken out, not both are there, and together they are this one
record AreOne (earlier current both : Option Entry) : Type 0 where
  stays : option_filter is_staying earlier ≡ earlier
  stays_too : option_filter is_staying current ≡ current
  apart : is_some earlier ≡ true → current ≡ None
  together : option_or earlier current ≡ both

-- the mark of a row whose path is one of those that change
abbrev mark_if : ℕ → Bool → Option Entry → Option Entry
mark_if mark b o = cond b (option_map (with_mark mark) o) o

abbrev taken_if : Bool → Option Entry → Option Entry
taken_if b o = option_filter is_staying (mark_if leaving_mark b o)

module _ (path text : List ℕ) (profile : Option ℕ) where
  abbrev row : Entry
  row = fresh_entry path profile text

  put_one : (b : Bool) (earlier current both : Option Entry) → AreOne earlier current both
      → AreOne (taken_if b earlier) (cond b (Some row) current) (cond b (Some row) both)
  put_one true earlier current both h =
      rw (leaving earlier) (record { stays = refl; stays_too = refl; apart = λ there. absurd (true≢false (sym there)); together = refl })
  put_one false earlier current both h = rw h.stays h

  put_earlier_one : (b : Bool) (earlier current both : Option Entry) → AreOne earlier current both
      → AreOne (cond b (Some row) (taken_if b earlier)) (taken_if b current) (cond b (Some row) both)
  put_earlier_one true earlier current both h =
      rw (leaving current) (record { stays = refl; stays_too = refl; apart = λ there. refl; together = refl })
  put_earlier_one false earlier current both h = rw (h.stays, h.stays_too) h

marked_one : (b : Bool) (earlier current both : Option Entry) → AreOne earlier current both
    → AreOne (mark_if stale_mark b earlier) (mark_if stale_mark b current) (mark_if stale_mark b both)
marked_one false earlier current both h = h
marked_one true earlier current both h = record {
  stays = all_stay earlier;
  stays_too = all_stay current;
  apart = λ there. ap (option_map (with_mark stale_mark)) (h.apart (sym (still_some earlier) ∙ there));
  together = marked_or earlier ∙ ap (option_map (with_mark stale_mark)) h.together;
}
  where
    all_stay : (o : Option Entry) → option_filter is_staying (option_map (with_mark stale_mark) o) ≡ option_map (with_mark stale_mark) o
    all_stay None = refl
    all_stay (Some e) = refl

    still_some : (o : Option Entry) → is_some (option_map (with_mark stale_mark) o) ≡ is_some o
    still_some None = refl
    still_some (Some e) = refl

    marked_or : (o : Option Entry) → option_or (option_map (with_mark stale_mark) o) (option_map (with_mark stale_mark) current)
        ≡ option_map (with_mark stale_mark) (option_or o current)
    marked_or None = refl
    marked_or (Some e) = refl

left_one : (b : Bool) (earlier current both : Option Entry) → AreOne earlier current both
    → AreOne (taken_if b earlier) (taken_if b current) (cond b None both)
left_one true earlier current both h =
    rw (leaving earlier, leaving current) (record { stays = refl; stays_too = refl; apart = λ there. refl; together = refl })
left_one false earlier current both h = rw (h.stays, h.stays_too) h

-- ---- the changes

module _ (rows : Rows) (settled : AreSettled rows) where
  after_one : (change : Change) (other : List ℕ)
      → AreOne (rows_after change rows Earlier other) (rows_after change rows Current other) (changed_by change (all_of rows) other)
  after_one change other =
      let h : AreOne (rows Earlier other) (rows Current other) (all_of rows other) =
      record {
        stays = settled.staying Earlier other;
        stays_too = settled.staying Current other;
        apart = settled.apart other;
        together =
            refl;
      } in
      go change h
    where
      go : (change : Change) → AreOne (rows Earlier other) (rows Current other) (all_of rows other)
          → AreOne (rows_after change rows Earlier other) (rows_after change rows Current other) (changed_by change (all_of rows) other)
      go (Put is_new path profile text) h = put_one path.now text.now (Some (profile_number profile)) (bytes_eq path.now other) _ _ _ h
      go (PutEarlier path text) h = put_earlier_one path.now text.now None (bytes_eq path.now other) _ _ _ h
      go (Mark paths) h = marked_one (is_one_of other (map string_bytes paths.now)) _ _ _ h
      go MarkAll h = marked_one true _ _ _ h
      go (TakeOut paths) h = left_one (is_one_of other (map string_bytes paths.now)) _ _ _ h

  pub after_settled : (change : Change) → AreSettled (rows_after change rows)
  after_settled change = record {
    staying = each_part (λ part. (other : List ℕ)
        → option_filter is_staying (rows_after change rows part other) ≡ rows_after change rows part other)
        (λ other. (after_one change other).stays) (λ other. (after_one change other).stays_too);
    apart = λ other. (after_one change other).apart;
  }

  -- what a change makes of the rows of both tables
  pub after_all : (change : Change) (other : List ℕ) → all_of (rows_after change rows) other ≡ changed_by change (all_of rows) other
  after_all change other = (after_one change other).together

-- where the release before may have no row, a change gives it none
pub after_allowed : (has_earlier : Bool) (change : Change) (rows : Rows) → IsAllowedChange has_earlier change rows
    → AllowsFor has_earlier rows
    → AllowsFor has_earlier (rows_after change rows)
after_allowed has_earlier (Put is_new path profile text) rows free allows off =
    ap (without path.now) (allows off) ∙ ap staying_of (none_marked leaving_mark path.now)
after_allowed has_earlier (PutEarlier path text) rows free allows off = absurd (true≢false (sym free ∙ off))
after_allowed has_earlier (Mark paths) rows free allows off =
    ap (marked_among stale_mark (map string_bytes paths.now)) (allows off) ∙ none_among stale_mark (map string_bytes paths.now)
after_allowed has_earlier MarkAll rows free allows off = ap all_marked (allows off)
after_allowed has_earlier (TakeOut paths) rows free allows off =
    ap staying_of (ap (marked_among leaving_mark (map string_bytes paths.now)) (allows off)
    ∙ none_among leaving_mark (map string_bytes paths.now))
