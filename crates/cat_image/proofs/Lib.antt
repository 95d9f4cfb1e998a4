-- a text that is cut, its words, and what is read of them
pub mod CutLemmas
pub mod DigitLemmas
pub mod FeedLemmas
pub mod LineLemmas
pub mod NumberLemmas
pub mod ReadLemmas
pub mod TypeLemmas
pub mod TypedLemmas
pub mod ListedLemmas
pub mod ConstantLemmas
pub mod WrittenInstr
pub mod InstrLemmas
pub mod RowLemmas
pub mod SplitLemmas
pub mod WrittenLemmas
pub mod KindLemmas
-- rows that are put in order, and images
pub mod PutLemmas
pub mod RunLemmas
pub mod AcceptLemmas
pub mod SectionLemmas
pub mod InnerLemmas
pub mod EndingLemmas
pub mod ImageLemmas
pub mod FewLemmas
pub mod ListedText
pub mod ListedWhole
mod ImageExamples
