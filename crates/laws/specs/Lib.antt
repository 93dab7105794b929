-- Definitions and laws on tests, numbers and lists, each once, for the layers above. No code.
--
-- For a loop that ..                                           take        its invariant, and the laws that begin it, carry it on and end it
--   stores one element a turn                                  Tab         Filling: fill-start, fill-on, fill-end, or fill_whole where the list is full then
--   stores one row of a matrix a turn                          Grid        Rowing: rows-start, rows-on, rows-end
--   stores one record a turn                                   Packed      packed-none, packed-more; as a list of records: packed-laid
--   stores the records that pass a test                        Kept        Keeping: keep_start, keep_on, keep_end
--   pushes the indices that pass a test                        Collecting  Collecting: collect_start, collect_on, collect_end
--   pushes an element now and then                             Over        Pushed: push_start, push_maybe; in a part of the list: push_tail
--   pushes some elements at each index                         Joined      joined-none, joined-more
--   leaves at the first index that passes a test               Scan        Scanning: scan-begin, scan-next, then scan-found or scan-done
--   leaves at the first element that fails one                 Every       Chaining: chain-start, chain-on, then chain_fails or chain-ends
--   leaves at the element of a list that decides              Deciding    what is to come decides: undecided, then decided or exhausted
--   leaves at the first number above a bound                   Most        Low: low-start, low-on, then high or low-end
--   carries one value                                          Folding     Folding: fold-start, fold-on, fold-end
--   counts what passes a test, or finds the last that does     Count, Last count-none, count-more; last-none, last-more
--   goes by a definition with fuel n - k                       Fuel        fuel_suc, fuel_zero
--   exchanges entries of an order                              Swap        swapped-at, comes_once
--   stores into a pairing, whose entries are counted           Total       total-in, total-out
--
-- And for a step or an answer: Choose for a cascade of tests, Tests for tests joined by && and ||, Splice and Records for a part that was lent.

-- tests and numbers
pub mod Choose
pub mod Tests
pub mod Sides
pub mod Most
pub mod Fuel
-- what a loop looks for or carries
pub mod Scan
pub mod Fold
pub mod Folding
pub mod Every
pub mod Deciding
pub mod Count
pub mod Last
-- lists by their elements, and those that pass a test
pub mod Tab
pub mod Stored
pub mod Replicate
pub mod Sieve
pub mod Picked
pub mod Joined
pub mod Elem
pub mod Occurs
pub mod Total
pub mod Below
pub mod Swap
-- what lies in lent memory
pub mod Splice
pub mod Laid
pub mod Packed
pub mod Records
pub mod Kept
pub mod Over
pub mod Collecting
pub mod Grid
