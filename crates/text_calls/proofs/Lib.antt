pub mod PairExact
