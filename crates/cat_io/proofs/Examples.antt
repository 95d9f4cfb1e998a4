-- Worked examples of what the words of the contracts mean.
use Rattle.std.proofs.Common.{◌≡◌, List, ℕ, [], ◌∷◌, refl, true, false, arith}
use Rattle.std.specs.Prelude.{codes, Some, None, Ok, Err}
use Rattle.cat_io.specs.Shelf.{Shelved, count_of}
use Rattle.cat_io.specs.Sink.{Sunk, Shrinks}
use Rattle.cat_io.specs.Count.{next_count, FaultsRose}
use Rattle.cat_io.specs.Stored.{answer_of, after_read, after_put}
use Rattle.cat_io.specs.Numbered.{Numbered, fails_next, after_call}
use Rattle.cat_io.specs.declared.shelf.ShelfFault.TheVariants.{Missing, Long, Memory}

abbrev a : List ℕ
a = codes "a.md"

abbrev b : List ℕ
b = codes "b.md"

a_name_counts_as_often_as_it_stands_there : count_of a (a ∷ b ∷ a ∷ []) ≡ 2
unfolding count_of
a_name_counts_as_often_as_it_stands_there = refl

a_longer_name_is_another_name : count_of a (codes "a.mdx" ∷ codes "a.m" ∷ []) ≡ 0
unfolding count_of
a_longer_name_is_another_name = refl

a_count_grows_by_one : next_count 4 ≡ 5
a_count_grows_by_one = refl

the_last_count_stays : next_count 18446744073709551615 ≡ 18446744073709551615
the_last_count_stays = refl

faults_at_their_last_value_count_as_risen : FaultsRose 18446744073709551615 18446744073709551615
faults_at_their_last_value_count_as_risen = omega arith

faults_that_stay_have_not_risen : FaultsRose 7 7 → ⊥
faults_that_stay_have_not_risen rose = omega (arith, rose)

a_name_without_content_is_missing : answer_of None 9 ≡ Err Missing
a_name_without_content_is_missing = refl

content_at_the_limit_is_given : answer_of (Some (codes "four")) 4 ≡ Ok tt
content_at_the_limit_is_given = refl

content_past_the_limit_is_long : answer_of (Some (codes "four")) 3 ≡ Err Long
content_past_the_limit_is_long = refl

an_empty_file_is_given_within_no_bytes : answer_of (Some []) 0 ≡ Ok tt
an_empty_file_is_given_within_no_bytes = refl

abbrev shelf : Shelved
shelf = record { content = λ _. None; misses = b ∷ []; faults = []; longs = [] }

a_miss_is_listed_as_a_miss : after_read shelf a (Err Missing) ≡ record shelf { misses = b ∷ a ∷ [] }
a_miss_is_listed_as_a_miss = refl

a_read_refused_for_memory_lists_nothing : after_read shelf a (Err Memory) ≡ shelf
a_read_refused_for_memory_lists_nothing = refl

abbrev sink : Sunk
sink = record { taken = Some (codes "ab"); room = Some 3; faults = 0 }

a_put_takes_the_whole_piece :
    after_put sink (codes "cd") (Ok tt) ≡ record { taken = Some (codes "abcd"); room = Some 1; faults = 0 }
a_put_takes_the_whole_piece = refl

a_failed_put_takes_nothing : (fault : _) → after_put sink (codes "cdef") (Err fault) ≡ record sink { faults = 1 }
a_failed_put_takes_nothing fault = refl

a_room_shrinks_by_what_was_put : Shrinks (Some 5) (Some 3) 2
a_room_shrinks_by_what_was_put = refl

abbrev calls : Numbered
calls = record { made = 1; failing = 2 ∷ 5 ∷ [] }

the_second_call_is_listed : fails_next calls ≡ true
the_second_call_is_listed = refl

the_third_is_not : fails_next (after_call calls) ≡ false
the_third_is_not = refl
