pub mod WritableLists
